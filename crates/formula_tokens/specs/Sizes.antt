-- A token lies within its part, and what is known where a token was read and matched. Rests on Tokens.
--   code_past, code_other: 'Any code from 11 to 255 is refused'
--   at_end: past the part's end stands the end
--   size-within, end_most: a token lies within the part
--   Stands, stands, stands-within: a token stands at a place, and another place is where it ends; both are within the part
use Rattle.std.specs.Prelude.{ℕ, zero, suc, ◌+◌, ◌≤◌, ◌<◌, max, ◌≡◌, refl, Bool, true, false, cond, List, [], ◌∷◌, eqb, ltb, length, drop}
use Rattle.std.proofs.Common.{sym, ap, ◌∙◌, arith, drop_of_length-le, length-drop, ne_eqb, ltb-true, ltb-false}
use Rattle.formula_tokens.specs.declared.Token.{Token}
use Rattle.formula_tokens.specs.declared.Token.TheVariants.{Variable, End, Broken}
use Rattle.formula_tokens.specs.Tokens.{literal, with_number, token_by_code, token_of, token_size, token_at}

-- where the codes 0 to 10 decide, and the code is past them
pub code_past : {A : Type 0} (c : ℕ) → 11 ≤ c → (x₀ x₁ x₂ x₃ x₄ x₅ x₆ x₇ x₈ x₉ x₁₀ y : A)
    → cond (eqb c 0) x₀ (cond (eqb c 1) x₁ (cond (eqb c 2) x₂ (cond (eqb c 3) x₃ (cond (eqb c 4) x₄ (cond (eqb c 5) x₅
    (cond (eqb c 6) x₆ (cond (eqb c 7) x₇ (cond (eqb c 8) x₈ (cond (eqb c 9) x₉ (cond (eqb c 10) x₁₀ y)))))))))) ≡ y
code_past c l x₀ x₁ x₂ x₃ x₄ x₅ x₆ x₇ x₈ x₉ x₁₀ y =
    simp (
      ne_eqb c 0 (λ e. omega arith),
      ne_eqb c 1 (λ e. omega arith),
      ne_eqb c 2 (λ e. omega arith),
      ne_eqb c 3 (λ e. omega arith),
      ne_eqb c 4 (λ e. omega arith),
      ne_eqb c 5 (λ e. omega arith),
      ne_eqb c 6 (λ e. omega arith),
      ne_eqb c 7 (λ e. omega arith),
      ne_eqb c 8 (λ e. omega arith),
      ne_eqb c 9 (λ e. omega arith),
      ne_eqb c 10 (λ e. omega arith),
    )

pub code_other : (c : ℕ) (b : List ℕ) → 11 ≤ c → token_by_code c b ≡ Broken
unfolding token_by_code
code_other c b l = code_past c l _ _ _ _ _ _ _ _ _ _ _ _

pub at_end : (f : List ℕ) (at : ℕ) → length f ≤ at → token_at f at ≡ End
unfolding token_of
at_end f at l = rw (drop_of_length-le f l)

-- ---- a token lies within the part

number-within : (t : ℕ → Token) → ((p : ℕ) → token_size (t p) ≡ 2) → (b : List ℕ) → token_size (with_number t b) ≤ suc (length b)
unfolding token_size
number-within t h [] = omega arith
number-within t h (p ∷ b) = omega (arith, h p)

-- what is left has the token's bytes
pub size-within : (b : List ℕ) → token_size (token_of b) ≤ length b
unfolding token_of token_size
size-within [] = omega arith
size-within (zero ∷ b) = omega arith
size-within (suc zero ∷ b) = omega arith
size-within (suc (suc zero) ∷ b) = number-within (literal false) (λ p. refl) b
size-within (suc (suc (suc zero)) ∷ b) = number-within (literal true) (λ p. refl) b
size-within (suc (suc (suc (suc zero))) ∷ b) = number-within (λ v. Variable v) (λ p. refl) b
size-within (suc (suc (suc (suc (suc zero)))) ∷ b) = omega arith
size-within (suc (suc (suc (suc (suc (suc zero))))) ∷ b) = omega arith
size-within (suc (suc (suc (suc (suc (suc (suc zero)))))) ∷ b) = omega arith
size-within (suc (suc (suc (suc (suc (suc (suc (suc zero))))))) ∷ b) = omega arith
size-within (suc (suc (suc (suc (suc (suc (suc (suc (suc zero)))))))) ∷ b) = omega arith
size-within (suc (suc (suc (suc (suc (suc (suc (suc (suc (suc zero))))))))) ∷ b) = omega arith
size-within (suc (suc (suc (suc (suc (suc (suc (suc (suc (suc (suc n)))))))))) ∷ b) =
    let z = ap token_size (code_other (suc (suc (suc (suc (suc (suc (suc (suc (suc (suc (suc n))))))))))) b (omega arith)) in omega arith

-- the place after a token is at or before the part's end, and past the end it does not move
pub end_most : (f : List ℕ) (at : ℕ) → at + token_size (token_at f at) ≤ max at (length f)
unfolding token_size
end_most f at = go (ltb at (length f)) refl
  where
    go : (x : Bool) → ltb at (length f) ≡ x → at + token_size (token_at f at) ≤ max at (length f)
    go true e = let l = ltb-true at (length f) e in let h = size-within (drop at f) in let m = length-drop at f in omega arith
    go false e = let h = ap token_size (at_end f at (ltb-false at (length f) e)) in omega arith

-- ---- a token that was read

-- t stands at the place `at` of f, and the next token begins at `after`
pub record Stands (f : List ℕ) (at : ℕ) (t : Token) (after : ℕ) : Type 0 where
  pub token : token_at f at ≡ t
  pub ends : after ≡ at + token_size t

-- from what `token_at` and `size` ensure, and what a match found
pub stands : {f : List ℕ} {at s : ℕ} {r t : Token} → r ≡ token_at f at → s ≡ token_size r → r ≡ t → Stands f at t (at + s)
stands {at = at} e s m = record { token = sym e ∙ m; ends = ap (λ (n : ℕ). at + n) (s ∙ ap token_size m) }

-- a token that has bytes lies within the part
pub stands-within : {f : List ℕ} {at after : ℕ} {t : Token} → Stands f at t after → 1 ≤ token_size t → (at < length f) × (after ≤ length f)
stands-within {f} {at} s l =
    let h = size-within (drop at f) in
    let z = ap token_size s.token in
    (omega (arith, length-drop at f), omega (arith, length-drop at f, s.ends))
