-- The operations of a part that passes every test obey the laws of a distributive De Morgan lattice. Rests on theory's Lattice, Tests, Searched,
-- DeMorgan, Ordered.
-- Here stand the definitions; the theorems are in proofs/Sound.
--   LatticeSound: a part to which none of the refusals applies
use Rattle.std.specs.Prelude.{◌≡◌, true}
use Rattle.theory.specs.Part.{LatticePart, meet_of, join_of}
use Rattle.lattice_order.specs.Tests.{distributive, complement_rules}
use Rattle.lattice_order.specs.Ordered.{Formed, Ordered, MeetsJoinsFound}

-- a part to which none of the refusals applies
pub record LatticeSound (P : LatticePart) : Type 0 where
  pub formed : Formed P
  pub ordered : Ordered P
  pub meets_and_joins_lem : MeetsJoinsFound P
  pub distributes : distributive P.size (meet_of P) (join_of P) ≡ true
  pub complements : complement_rules P.size P.order P.complement ≡ true
