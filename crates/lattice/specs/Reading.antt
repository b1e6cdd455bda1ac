-- The reading of a lattice part: refused by the first of the refusals 4 to 8 that applies, or accepted. Rests on theory's Part, lattice_order's Tests,
-- Panel.
--   is_panel, lattice_of: what the bytes say; explicit_form, lattice_form: refusal 4
--   LatticeReading, require, part_reading, lattice_reading: the refusal, or the part accepted
--   reflexive, antisymmetric, transitive, partial_order, meets_and_joins, distributive, complement_rules: lattice_order's tests, passed on
use Rattle.std.specs.Prelude.{ℕ, ◌+◌, ◌*◌, Bool, cond, ◌&&◌, ◌||◌, List, ltb, leb, eqb, length, get_or}
use Rattle.theory.specs.Part.{LatticePart, meet_of, join_of, explicit_part}
use Rattle.theory.specs.Test.{all_below}
use Rattle.refusal.specs.declared.Refusal.{Refusal}
use Rattle.refusal.specs.declared.Refusal.TheVariants.{LatticeForm, NoPartialOrder, NoMeetOrJoin, NotDistributive, BadComplement}
use Rattle.lattice.specs.Panel.{panel_part}
-- the tests of refusals 5 to 8
unfoldable pub use Rattle.lattice_order.specs.Tests.{reflexive, antisymmetric, transitive, partial_order, meets_and_joins, distributive, complement_rules}

-- ---- what the bytes say

-- 'A lattice part of the one byte 0 means the panel lattice'
unfoldable pub is_panel : List ℕ → Bool
is_panel b = eqb (length b) 1 && eqb (get_or b 0 0) 0

unfoldable pub lattice_of : List ℕ → LatticePart
lattice_of b = cond (is_panel b) panel_part (explicit_part b)

-- ---- refusal 4: 'n over 64, a wrong length, a complement not below n, an order byte not 0 or 1'

-- 'A lattice part is n (1 to 64), then n complement bytes, then n·n order bytes.'
unfoldable pub explicit_form : ℕ → List ℕ → Bool
explicit_form n b =
    leb 1 n && leb n 64 && eqb (length b) (1 + n + n * n)
    && all_below n (λ i. ltb (get_or b (1 + i) 0) n)
    && all_below (n * n) (λ i. ltb (get_or b (1 + n + i) 0) 2)

unfoldable pub lattice_form : List ℕ → Bool
lattice_form b = is_panel b || explicit_form (get_or b 0 0) b

-- ---- the reading

pub data LatticeReading : Type 0 where
  refused : Refusal → LatticeReading
  accepted : LatticePart → LatticeReading

-- the refusal where its test fails, else what is found next
unfoldable pub require : Bool → Refusal → LatticeReading → LatticeReading
require t f next = cond t next (refused f)

-- 'The first that applies is given, in this order'
unfoldable pub part_reading : LatticePart → LatticeReading
part_reading P =
    require (partial_order P.size P.order) NoPartialOrder
    (require (meets_and_joins P) NoMeetOrJoin
    (require (distributive P.size (meet_of P) (join_of P)) NotDistributive
    (require (complement_rules P.size P.order P.complement) BadComplement
    (accepted P))))

-- An empty part is refused by the case's directory, with refusal 3, and never gets here; this definition gives it refusal 4.
unfoldable pub lattice_reading : List ℕ → LatticeReading
lattice_reading b = require (lattice_form b) LatticeForm (part_reading (lattice_of b))
