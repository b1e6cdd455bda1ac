-- The test that an accepted part passes: its order is that of the codes, the | of a code and an irreducible element's code is a code, and so is 0.
-- Exactly the distributive lattices pass it. Rests on lattice_order's Ordered, Bounds and Tests, elements' Bits and Laws, Tests, Order, Bounded, Birkhoff.
-- Here stand the definitions; the theorems are in proofs/Accepting.
--   DownSet, CodeAt, set_code: every set of irreducible elements that has those below its own is the code of an element
--   DistributiveLattice: a partial order with all meets and joins, and distributive
use Rattle.std.specs.Prelude.{ℕ, ◌<◌, ◌≡◌, Bool, true}
use Rattle.theory.specs.Part.{LatticePart, meet_of, join_of}
use Rattle.lattice_order.specs.Tests.{distributive}
use Rattle.lattice_order.specs.Ordered.{Ordered, MeetsJoinsFound}
use Rattle.lattice_codes.specs.Tests.{down_of, irreducible, code_of}
use Rattle.lattice_codes.specs.Birkhoff.{below}

-- a partial order with all meets and joins, and distributive
pub record DistributiveLattice (P : LatticePart) : Type 0 where
  pub order : Ordered P
  pub meets_and_joins_lem : MeetsJoinsFound P
  pub distributes : distributive P.size (meet_of P) (join_of P) ≡ true

-- the element with a code
pub record CodeAt (P : LatticePart) (x : ℕ) : Type 0 where
  pub element : ℕ
  pub inside : element < P.size
  pub code : code_of P element ≡ x

-- a set of irreducible elements that has those at or below its own
pub record DownSet (P : LatticePart) (p : ℕ → Bool) : Type 0 where
  pub simples : (e : ℕ) → e < P.size → p e ≡ true → irreducible P.size (down_of P) e ≡ true
  pub lower : (e i : ℕ) → e < P.size → i < P.size → p e ≡ true → below P e i ≡ true → p i ≡ true
