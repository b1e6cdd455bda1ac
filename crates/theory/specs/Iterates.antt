-- The iterates of a monotone map on functions, from the greatest value on, in either direction of an order. Rests on Value, Descent.
-- Here stand the definitions; the theorems are in proofs/Iterates.
--   Under: at or below at every number below N
use Prim.Native.Nat.{ℕ, ◌<◌}
use Rattle.std.specs.Prelude.{◌≡◌, true}
use Rattle.theory.specs.Descent.{Preorder}

module _ {A : Type 0} (W : Preorder A) (N : ℕ) where
  abbrev pub Under : (ℕ → A) → (ℕ → A) → Type 0
  Under x y = (q : ℕ) → q < N → W.test (x q) (y q) ≡ true
