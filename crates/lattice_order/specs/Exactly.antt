-- The parts that pass every test are exactly the distributive De Morgan lattices. Rests on theory's Lattice, Tests, Searched, DeMorgan, Ordered,
-- Sound.
-- Here stand the definitions; the theorems are in proofs/Exactly.
--   SameLattice, ops_lattice: a part whose order and complement are those of operations that obey the laws is one
use Rattle.std.specs.Prelude.{ℕ, ◌<◌, ◌≡◌, ltb}
use Rattle.theory.specs.Lattice.{Ops}
use Rattle.theory.specs.Part.{LatticePart}

-- The elements of O are the numbers below n, and its order and complement on them are those of the part.
pub record SameLattice (P : LatticePart) (O : Ops ℕ) : Type 0 where
  pub elements : (a : ℕ) → O.is_element a ≡ ltb a P.size
  pub orders : (a b : ℕ) → a < P.size → b < P.size → O.at_most a b ≡ P.order a b
  pub complements : (a : ℕ) → a < P.size → O.neg a ≡ P.complement a
