-- Codes of the elements of a lattice, by its irreducible elements: a lattice is distributive exactly when the code of a join is the | of the
-- codes. Rests on lattice_order's Ordered, Bounds and Tests, elements' Bits and Laws, Tests, Order, Lattice.
-- Here stand the definitions; the theorems are in proofs/Birkhoff.
--   Irreducible, irreducible_in, irreducible_out: what it is to be irreducible
use Rattle.std.specs.Prelude.{ℕ, ◌<◌, ◌≡◌, Bool, ◌&&◌}
use Rattle.theory.specs.Part.{LatticePart}
use Rattle.lattice_order.specs.Ordered.{Ordered}
use Rattle.elements.specs.Bits.{without}
use Rattle.lattice_codes.specs.Tests.{down_of, irreducible}

-- the irreducible elements at or below a
abbrev pub below : LatticePart → ℕ → ℕ → Bool
below P a e = P.order e a && irreducible P.size (down_of P) e

module _ (P : LatticePart) (o : Ordered P) where
  pub record Irreducible (a : ℕ) : Type 0 where
    pub lower : ℕ
    pub inside : lower < P.size
    pub others : (i : ℕ) → i < P.size → P.order i lower ≡ without (λ j. P.order j a) a i
