-- Two tables compared byte by byte: the bytes that differ are the entries that differ. Rests on Table, and theory's Loop and Finite.
--   all_zip: whether all pairs of two lists pass, by their places
--   Compared, compared_all: the bytes compared so far
use Rattle.std.specs.Prelude.{ℕ, zero, suc, ◌*◌, ◌≤◌, ◌≡◌, refl, Bool, true, false, not, ◌&&◌, List, [], ◌∷◌, eqb, length, get_or}
use Rattle.std.specs.List.{list_all, zip}
use Rattle.std.proofs.Common.{sym, ap, ◌∙◌, le_of_suc-le-suc, not-suc-le-zero}
use Rattle.std.proofs.Math.Bool.{and_assoc}
use Rattle.theory.specs.Simulation.{differing}
use Rattle.theory.specs.Test.{all_below}
use Rattle.theory.specs.Finite.{count-rows}
use Rattle.theory.specs.Loop.{Counted, counted_all}
use Rattle.rounds.specs.Table.{bytes_differing}

-- ---- lists of pairs, by the places of their items

all_front : (n : ℕ) (f : ℕ → Bool) → all_below (suc n) f ≡ (f 0 && all_below n (λ i. f (suc i)))
unfolding all_below
all_front zero f = elim (f 0) as (λ b. (true && b) ≡ (b && true)) [ true ↦ refl | false ↦ refl ]
all_front (suc n) f = ap (λ (b : Bool). b && f (suc n)) (all_front n f) ∙ and_assoc (f 0) (all_below n (λ i. f (suc i))) (f (suc n))

-- all pairs pass where all places do
pub all_zip : (p : ℕ × ℕ → Bool) (xs ys : List ℕ) → length xs ≤ length ys → list_all p (zip xs ys) ≡ all_below (length xs) (λ i. p (get_or xs i 0, get_or ys i 0))
unfolding all_below
all_zip p [] ys l = refl
all_zip p (x ∷ xs) [] l = absurd (not-suc-le-zero l)
all_zip p (x ∷ xs) (y ∷ ys) l = ap (λ (b : Bool). p (x, y) && b) (all_zip p xs ys (le_of_suc-le-suc l)) ∙ sym (all_front (length xs) (λ i. p (get_or (x ∷ xs) i 0, get_or (y ∷ ys) i 0)))

-- ---- two tables

-- c of the first i bytes of a and b differ
abbrev pub Compared : List ℕ → List ℕ → ℕ → ℕ → Type 0
Compared a b i c = Counted (λ j. not (eqb (get_or a j 0) (get_or b j 0))) i c

-- at the loop's end the counter i has reached n₁ · n₂
pub compared_all : (a b : List ℕ) (n₁ n₂ i c : ℕ) → Compared a b i c → i ≤ n₁ * n₂ → n₁ * n₂ ≤ i → c ≡ bytes_differing a b n₁ n₂
unfolding differing
compared_all a b n₁ n₂ i c u p q = (counted_all u p q).eq ∙ count-rows n₁ n₂ (λ j. not (eqb (get_or a j 0) (get_or b j 0)))
