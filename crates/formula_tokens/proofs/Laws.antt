-- The token at the front of the bytes that are left, by the code that stands there. Rests on Tokens and Sizes.
--   front: a law for each code, for a number that is missing and for no byte, by which the check proves `token_of`
use Prim.Native.Nat.{ℕ, zero, suc, ◌≤◌, ◌<◌}
use mathlib.Core.Path.{◌≡◌, refl}
use mathlib.Core.Bool.{true, false}
use mathlib.Core.List.{List, [], ◌∷◌}
use native.Mathlib.Omega.{arith}
use lib.ListN.{length, get_or}
use Rattle.formula_tokens.specs.declared.Token.{Token}
use Rattle.formula_tokens.specs.declared.Token.TheVariants.{Bottom, Top, Variable, Two, Next, Fixpoint, End, Broken}
use Rattle.formula_tokens.specs.Tokens.{literal, with_number, token_by_code, token_of}
use Rattle.formula_tokens.specs.Sizes.{code_other}

pub no_byte : (b : List ℕ) → length b < 1 → token_of b ≡ End
unfolding token_of
no_byte [] l = refl
no_byte (c ∷ b) l = absurd (omega arith)

-- t is the token of a code that no number follows
alone : (c : ℕ) (t : Token) → ((b : List ℕ) → token_by_code c b ≡ t) → (b : List ℕ) → 1 ≤ length b → get_or b 0 0 ≡ c → token_of b ≡ t
unfolding token_of
alone c t w [] l e = absurd (omega arith)
alone c t w (x ∷ b) l e = rw e (w b)

pub bottom : (b : List ℕ) → 1 ≤ length b → get_or b 0 0 ≡ 0 → token_of b ≡ Bottom
unfolding token_by_code
bottom = alone 0 Bottom (λ b. refl)

pub top : (b : List ℕ) → 1 ≤ length b → get_or b 0 0 ≡ 1 → token_of b ≡ Top
unfolding token_by_code
top = alone 1 Top (λ b. refl)

pub or : (b : List ℕ) → 1 ≤ length b → get_or b 0 0 ≡ 5 → token_of b ≡ Two true
unfolding token_by_code
or = alone 5 (Two true) (λ b. refl)

pub and : (b : List ℕ) → 1 ≤ length b → get_or b 0 0 ≡ 6 → token_of b ≡ Two false
unfolding token_by_code
and = alone 6 (Two false) (λ b. refl)

pub AX : (b : List ℕ) → 1 ≤ length b → get_or b 0 0 ≡ 7 → token_of b ≡ Next true
unfolding token_by_code
AX = alone 7 (Next true) (λ b. refl)

pub EX : (b : List ℕ) → 1 ≤ length b → get_or b 0 0 ≡ 8 → token_of b ≡ Next false
unfolding token_by_code
EX = alone 8 (Next false) (λ b. refl)

pub mu : (b : List ℕ) → 1 ≤ length b → get_or b 0 0 ≡ 9 → token_of b ≡ Fixpoint true
unfolding token_by_code
mu = alone 9 (Fixpoint true) (λ b. refl)

pub nu : (b : List ℕ) → 1 ≤ length b → get_or b 0 0 ≡ 10 → token_of b ≡ Fixpoint false
unfolding token_by_code
nu = alone 10 (Fixpoint false) (λ b. refl)

-- t gives the token of a code that a number follows
numbered : (c : ℕ) (t : ℕ → Token) → ((b : List ℕ) → token_by_code c b ≡ with_number t b) → (b : List ℕ) → 2 ≤ length b → get_or b 0 0 ≡ c → token_of b ≡ t (get_or b 1 0)
unfolding token_of
numbered c t w [] l e = absurd (omega arith)
numbered c t w (x ∷ []) l e = absurd (omega arith)
numbered c t w (x ∷ (p ∷ b)) l e = rw e (w (p ∷ b))

pub prop : (b : List ℕ) → 2 ≤ length b → get_or b 0 0 ≡ 2 → token_of b ≡ literal false (get_or b 1 0)
unfolding token_by_code
prop = numbered 2 (literal false) (λ b. refl)

pub negated : (b : List ℕ) → 2 ≤ length b → get_or b 0 0 ≡ 3 → token_of b ≡ literal true (get_or b 1 0)
unfolding token_by_code
negated = numbered 3 (literal true) (λ b. refl)

pub var : (b : List ℕ) → 2 ≤ length b → get_or b 0 0 ≡ 4 → token_of b ≡ Variable (get_or b 1 0)
unfolding token_by_code
var = numbered 4 (λ v. Variable v) (λ b. refl)

pub missing : (b : List ℕ) → length b < 2 → 2 ≤ get_or b 0 0 → get_or b 0 0 ≤ 4 → token_of b ≡ Broken
unfolding token_of token_by_code
missing [] l x y = absurd (omega arith)
missing (zero ∷ []) l x y = absurd (omega arith)
missing (suc zero ∷ []) l x y = absurd (omega arith)
missing (suc (suc zero) ∷ []) l x y = refl
missing (suc (suc (suc zero)) ∷ []) l x y = refl
missing (suc (suc (suc (suc zero))) ∷ []) l x y = refl
missing (suc (suc (suc (suc (suc n)))) ∷ []) l x y = absurd (omega arith)
missing (c ∷ (p ∷ b)) l x y = absurd (omega arith)

pub past : (b : List ℕ) → 1 ≤ length b → 11 ≤ get_or b 0 0 → token_of b ≡ Broken
unfolding token_of
past [] l x = absurd (omega arith)
past (c ∷ b) l x = code_other c b x

pub ruleset front = (no_byte, bottom, top, prop, negated, var, or, and, AX, EX, mu, nu, missing, past)
