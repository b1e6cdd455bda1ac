-- The lattices of the worked examples are accepted: the bytes that stand in theory's Examples are lattice parts, by computation.
-- Rests on theory's Examples, and on Reading.
use Rattle.std.specs.Prelude.{◌≡◌, refl}
use Rattle.theory.specs.Part.{is_meet, is_join, meet_of, join_of, explicit_part}
use Rattle.theory.specs.Test.{all_below, first_below}
use Rattle.theory.specs.Examples.{L1, L2, L3, subsets}
use Rattle.lattice.specs.Reading.{is_panel, lattice_of, explicit_form, lattice_form, reflexive, antisymmetric, transitive, partial_order, meets_and_joins, distributive, complement_rules, require, part_reading, accepted, lattice_reading}

-- of each the whole reading is computed
readings : (lattice_reading L1 ≡ accepted (explicit_part L1)) × (lattice_reading L2 ≡ accepted (explicit_part L2)) × (lattice_reading L3 ≡ accepted (explicit_part L3)) × (lattice_reading subsets ≡ accepted (explicit_part subsets))
unfolding is_meet is_join meet_of join_of all_below first_below is_panel lattice_of explicit_form lattice_form reflexive antisymmetric transitive partial_order meets_and_joins distributive complement_rules require part_reading lattice_reading
readings = (refl, refl, refl, refl)

-- one element
pub L1_accepted : lattice_reading L1 ≡ accepted (explicit_part L1)
L1_accepted = readings.0

-- 'L2 is 0 below 1'
pub L2_accepted : lattice_reading L2 ≡ accepted (explicit_part L2)
L2_accepted = readings.1

-- 'L3 is 0 below 1 below 2 with not-1 = 1'
pub L3_accepted : lattice_reading L3 ≡ accepted (explicit_part L3)
L3_accepted = readings.2

-- 'Subsets of {a, b, c}'
pub subsets_accepted : lattice_reading subsets ≡ accepted (explicit_part subsets)
subsets_accepted = readings.3
