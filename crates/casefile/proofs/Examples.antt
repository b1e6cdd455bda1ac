-- The case of document 01's report example, read by the definitions. Rests on Answer, Gapless and Accepted, and on the examples of lattice and model.
-- The definitions are in specs/Examples.
use Rattle.std.specs.Prelude.{◌≡◌, refl, Ok}
use Rattle.std.proofs.Common.{ap}
use Rattle.theory.specs.Formula.{closed_under, over_props, nested_binders}
use Rattle.theory.specs.Part.{top_of, bot_of}
use Rattle.theory.specs.Test.{all_below, first_below}
use Rattle.lattice.specs.Examples.{L3_accepted}
use Rattle.model.specs.Examples.{L3_models}
use Rattle.formula.specs.Bytes.{by_code, parse, formula_reading}
use Rattle.casefile.specs.Directory.{part_start, part_size, placed, misplaced, parts_from, parts_of}
use Rattle.casefile.specs.Reading.{formulas_reading, case_reading, content}
use Rattle.casefile.specs.Gapless.{pairs, joined, gapless}
use Rattle.casefile.specs.Answer.{case_answer}
use Rattle.casefile.specs.Placed.{has_directory, none_misplaced}
use Rattle.casefile.specs.Conditions.{Placed}
use Rattle.casefile.proofs.Accepted.{case_exactly}
use Rattle.casefile.specs.Conditions.{PartsRead}
use Rattle.casefile.specs.Examples.{report_case, report_content}

report_placed : Placed report_case
unfolding first_below part_start part_size placed misplaced
report_placed = record { directory = has_directory report_case refl refl; each = none_misplaced report_case refl }

report_parts : PartsRead report_content
unfolding closed_under over_props nested_binders by_code parse formula_reading formulas_reading
report_parts =
    record {
      lattice_read = L3_accepted;
      model1_read = L3_models.0;
      model2_read = L3_models.0;
      same_propositions = refl;
      formulas_read = refl;
    }

-- it is read as these
pub report_reading : case_reading report_case ≡ content report_content
unfolding part_start part_size parts_from
report_reading = (case_exactly report_case report_content).1 (report_placed, refl, report_parts)

-- and accepted: 3 elements, top 2 and bottom 0, one state in each model, one proposition, one formula
pub report_accepted : case_answer (case_reading report_case) ≡ Ok (record { lattice = record { size = 3; top = record { 0 = 2 }; bottom = record { 0 = 0 } }; states1 = 1; states2 = 1; propositions = 1; formulas = 1 })
unfolding top_of bot_of all_below first_below
report_accepted = ap case_answer report_reading

-- it is its own gapless form
pub report_gapless : gapless (parts_of report_case) ≡ report_case
unfolding part_start part_size parts_from pairs joined gapless
report_gapless = refl
