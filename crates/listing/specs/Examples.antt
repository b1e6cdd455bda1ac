-- The text of document 01's example, and that of empty input, by computation. Rests on Text and casefile's Examples.
use Rattle.std.specs.Prelude.{ℕ, ◌≡◌, refl, List, [], ◌∷◌}
use Rattle.std.proofs.Common.{ap, ◌∙◌}
use Rattle.theory.specs.Lattice.{imp, iff, big_meet, big_join}
use Rattle.theory.specs.Value.{iterate, bind, all_next, some_next, eval, value_at, whole_value}
use Rattle.theory.specs.Simulation.{proposition_part, successor_part, F, round_of, score}
use Rattle.theory.specs.Part.{is_meet, is_join, meet_of, join_of, top_of, bot_of, element}
use Rattle.theory.specs.Test.{all_below, first_below}
use Rattle.casefile.specs.Reading.{case_reading}
use Rattle.casefile.specs.Examples.{report_case}
use Rattle.casefile.proofs.Examples.{report_reading}
use Rattle.rounds.specs.Table.{row_same, simulation_test}
use Rattle.listing.specs.Text.{decimal_within, decimal, each, refused_text, row_text, table_text, formula_text, formula_line, formulas_text, accepted_text, settled_round, text_of, listing_text}

-- 'rounds 2', 'row 0: 1', 'score 1', 'formula 0: 1 1', each with its line feed
abbrev pub report_text : List ℕ
report_text =
    114 ∷ 111 ∷ 117 ∷ 110 ∷ 100 ∷ 115 ∷ 32 ∷ 50 ∷ 10
    ∷ 114 ∷ 111 ∷ 119 ∷ 32 ∷ 48 ∷ 58 ∷ 32 ∷ 49 ∷ 10
    ∷ 115 ∷ 99 ∷ 111 ∷ 114 ∷ 101 ∷ 32 ∷ 49 ∷ 10
    ∷ 102 ∷ 111 ∷ 114 ∷ 109 ∷ 117 ∷ 108 ∷ 97 ∷ 32 ∷ 48 ∷ 58 ∷ 32 ∷ 49 ∷ 32 ∷ 49 ∷ 10
    ∷ []

-- 'On example 1 with formula p, the bytes .. print exactly'
pub report_prints : listing_text report_case ≡ report_text
unfolding imp iff big_meet big_join iterate bind all_next some_next eval value_at whole_value proposition_part successor_part F round_of score is_meet is_join meet_of join_of top_of bot_of element all_below first_below row_same simulation_test decimal_within decimal each row_text table_text formula_text formula_line formulas_text accepted_text settled_round
report_prints = ap text_of report_reading ∙ refl

-- 'refused 1 255 for empty input'
pub empty_prints : listing_text [] ≡ 114 ∷ 101 ∷ 102 ∷ 117 ∷ 115 ∷ 101 ∷ 100 ∷ 32 ∷ 49 ∷ 32 ∷ 50 ∷ 53 ∷ 53 ∷ 10 ∷ []
unfolding case_reading decimal_within decimal refused_text
empty_prints = refl
