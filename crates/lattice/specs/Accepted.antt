-- An accepted part is a distributive De Morgan lattice, and every such lattice is accepted. Rests on theory's Lattice, lattice_order's Sound and Exactly,
-- Reading, Numbered.
--   accepted_is_lattice: the operations of an accepted part obey the laws
--   lattice_exactly: accepted are exactly the parts of the right form that are such lattices; lattice_is_accepted is one direction
--   accepted_sound: the accepted part is the one that the bytes give, and no refusal applies to it
--   formed: the form test of any part, as facts on its number of elements and its complements
use Rattle.std.specs.Prelude.{ℕ, ◌≡◌, refl, Bool, true, false, cond, ◌||◌, ◌↔◌, List, get_or}
use Rattle.std.proofs.Common.{sym, arith}
use Rattle.theory.specs.Lattice.{Laws}
use Rattle.theory.specs.Part.{LatticePart, meet_of, join_of, ops_of, explicit_part}
use Rattle.refusal.specs.declared.Refusal.{Refusal}
use Rattle.lattice_order.specs.DeMorgan.{DeMorganLattice}
use Rattle.lattice_order.specs.Ordered.{Formed, ordered_out, ordered_in, meets_and_joins_out, meets_and_joins_in}
use Rattle.lattice_order.specs.Sound.{LatticeSound}
use Rattle.lattice_order.proofs.Sound.{laws_of}
use Rattle.lattice_order.proofs.Exactly.{lattice_ordered, lattice_meets_and_joins, lattice_distributive, lattice_complements, sound_lattice}
use Rattle.lattice.specs.Panel.{panel_part}
use Rattle.lattice.specs.Numbered.{explicit_out}
use Rattle.lattice.specs.Reading.{LatticeReading, accepted, is_panel, lattice_of, explicit_form, lattice_form, partial_order, meets_and_joins, distributive, complement_rules, require, part_reading, lattice_reading}

pub formed : (b : List ℕ) → lattice_form b ≡ true → Formed (lattice_of b)
unfolding lattice_form lattice_of
formed b t = go (is_panel b) t
  where
    go : (p : Bool) → (p || explicit_form (get_or b 0 0) b) ≡ true → Formed (cond p panel_part (explicit_part b))
    go true f = record { some = omega arith; most = omega arith; inside = λ a l. omega arith }
    go false f = let w = explicit_out _ b f in record { some = w.some; most = w.most; inside = w.complements }

require_out : (t : Bool) (f : Refusal) (next : LatticeReading) (P : LatticePart) → require t f next ≡ accepted P → (t ≡ true) × (next ≡ accepted P)
unfolding require
require_out true f next P h = (refl, h)
require_out false f next P h = absurd (let z : ◌≡◌ {A = ℕ} 0 1 = cc in omega arith)

-- ---- the theorems

-- The part that is accepted is the one that the bytes give, and no refusal applies to it.
pub accepted_sound : (b : List ℕ) (P : LatticePart) → lattice_reading b ≡ accepted P → (P ≡ lattice_of b) × LatticeSound (lattice_of b)
unfolding lattice_reading part_reading
accepted_sound b P h =
    let f = require_out (lattice_form b) _ _ P h in
    let o = require_out (partial_order (lattice_of b).size (lattice_of b).order) _ _ P f.1 in
    let w = require_out (meets_and_joins (lattice_of b)) _ _ P o.1 in
    let d = require_out (distributive (lattice_of b).size (meet_of (lattice_of b)) (join_of (lattice_of b))) _ _ P w.1 in
    let n = require_out (complement_rules (lattice_of b).size (lattice_of b).order (lattice_of b).complement) _ _ P d.1 in
    let q : lattice_of b ≡ P = cc n.1 in
    (sym q, record { formed = formed b f.0; ordered = ordered_out _ o.0; meets_and_joins_lem = meets_and_joins_out _ w.0; distributes = d.0; complements = n.0 })

-- Where no refusal applies, the operations read from the part obey the laws of a distributive De Morgan lattice.
pub accepted_is_lattice : (b : List ℕ) (P : LatticePart) → lattice_reading b ≡ accepted P → Laws (ops_of P)
accepted_is_lattice b P h = let w = accepted_sound b P h in rw w.0 (laws_of (lattice_of b) w.1)

-- A part of the right form whose order and complement are those of a distributive De Morgan lattice on its n elements is accepted.
pub lattice_is_accepted : (b : List ℕ) → lattice_form b ≡ true → DeMorganLattice (lattice_of b) → lattice_reading b ≡ accepted (lattice_of b)
unfolding lattice_reading part_reading require
lattice_is_accepted b f D =
    rw (f, ordered_in _ (lattice_ordered _ D), meets_and_joins_in _ (lattice_meets_and_joins _ D), lattice_distributive _ D, lattice_complements _ D)

-- Accepted are exactly the parts of the right form whose order and complement are those of a distributive De Morgan lattice.
pub lattice_exactly : (b : List ℕ) → (lattice_reading b ≡ accepted (lattice_of b)) ↔ ((lattice_form b ≡ true) × DeMorganLattice (lattice_of b))
unfolding lattice_reading
lattice_exactly b = (
  λ e. ((require_out (lattice_form b) _ _ _ e).0, sound_lattice _ (accepted_sound b _ e).1),
  λ w. lattice_is_accepted b w.0 w.1,
)
