-- Theorem 9: what a share in whole per cent is, without the quotient by which it is worked out, and what request 101 left as it was. Rests
-- on Simulation and Loop.
-- Here stand the definitions; the theorems are in proofs/Share.
--   distance, Nearest: no whole number of per cent is nearer to c of t; nearest-exactly: twice its distance is at most one per cent
--   NearestEven: a nearest one, and the even one where two are; nearest-even-unique: there is no other
--   halves_up: the rule of document 01 that request 101 replaces; per_cent_as_before: it gives the same where no half is exact
use Rattle.std.specs.Prelude.{ℕ, ◌+◌, ◌*◌, ◌-◌, ◌/◌, ◌%◌, ◌≤◌, ◌≡◌}

module _ (c t : ℕ) where
  -- how far p per cent is from it, in parts of which t are one per cent: |100 c − p t|
  abbrev pub distance : ℕ → ℕ
  distance p = 100 * c - p * t + (p * t - 100 * c)

  -- no whole number is nearer to it than p
  abbrev pub Nearest : ℕ → Type 0
  Nearest p = (x : ℕ) → distance p ≤ distance x

  -- 'an exact half per cent to the even neighbour': p is a nearest whole number, and even where there is another
  pub record NearestEven (p : ℕ) : Type 0 where
    pub nearest : Nearest p
    pub even : (x : ℕ) → Nearest x → (x ≡ p → ⊥) → p % 2 ≡ 0

  -- the rule that held before request 101: the whole part of 100 c / t + 1 / 2
  abbrev pub halves_up : ℕ
  halves_up = (200 * c + t) / (2 * t)
