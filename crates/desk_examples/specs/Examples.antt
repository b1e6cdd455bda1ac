-- Two examples of document 01 by computation, calls from a desk of zeros and their answers; and lowerings on desks altered from outside. Rests on desk's Run and
-- casefile's Examples.
--   zeros, AnswersAs: the desk, and that the calls of a list answer as it says; nested: the facts of their formulas
--   calls1, LeavesCase; example4, calls4: the calls of worked examples 1 and 4, what the last of the former leaves in its buffer, and the case of the
--     latter
--   two_rows, two_rows_at: a case, and a desk that holds it; at_limit, unsaid, skipped: three such desks, altered; AnswersFrom, AlteredAnswer: what they answer
--   examples-answer: all of these answer so
--   refused_show: what a refused show answers
use Rattle.std.specs.Prelude.{ℕ, ◌≡◌, refl, false, true, List, [], ◌∷◌, ◌++◌, map, replicate}
use Rattle.theory.specs.Lattice.{imp, iff, big_meet, big_join}
use Rattle.theory.specs.Value.{iterate, bind, all_next, some_next, eval, value_at, whole_value}
use Rattle.theory.specs.Simulation.{proposition_part, successor_part, F, round_of, score, count, share, sum, differing}
use Rattle.theory.specs.Part.{is_meet, is_join, meet_of, join_of, top_of, bot_of, element}
use Rattle.theory.specs.Formula.{closed_under, over_props, nested_binders, nested_AX, fixpoint_free, universal}
use Rattle.theory.specs.Test.{all_below, first_below}
use Rattle.theory.specs.Lists.{tab}
use Rattle.lattice.specs.Reading.{is_panel, lattice_of, explicit_form, lattice_form, reflexive, antisymmetric, transitive, partial_order, meets_and_joins, distributive, complement_rules, require, part_reading, lattice_reading}
use Rattle.model.specs.Reading.{elements_only, model_test}
use Rattle.formula.specs.declared.FormulaFacts.{FormulaFacts}
use Rattle.formula.specs.Bytes.{by_code, parse, formula_reading}
use Rattle.refusal.specs.declared.Refusal.{Refusal}
use Rattle.casefile.specs.Directory.{part_start, part_size, placed, misplaced, parts_from}
use Rattle.casefile.specs.Reading.{formulas_reading, models_reading, case_reading}
use Rattle.casefile.specs.Gapless.{pairs, joined, gapless}
use Rattle.casefile.specs.Examples.{report_case}
use Rattle.rounds.specs.Table.{row_same, changed_below, row_at_most, post_fixed_test}
use Rattle.desk.specs.Desk.{Desk, Question, Call, Reply}
use Rattle.desk.specs.Refused.{short, rules_obeyed, spoiled, examined, accepted, refused_reply}
use Rattle.desk.specs.Moved.{opened, worked, stepped}
use Rattle.desk.specs.Perform.{answer, moved, lent_after, perform}
use Rattle.desk.specs.Run.{run, replies}

-- 'A refused show returns an empty part and no refusal number', whatever the refusal
pub refused_show : (r : Refusal) → refused_reply Call.Show r ≡ Reply.Shown []
refused_show r = refl

-- 'A desk of zeros'
abbrev pub zeros : Desk
zeros =
    record {
      standing = record { states1 = 0; states2 = 0; round = 0; row = 0; changed = false; settled = false; second_whole = false; lowerings = 0 };
      store = replicate 24576 0;
      first = replicate 4096 0;
      second = replicate 4096 0;
    }

-- the facts of a formula with so many nested AX, no fixpoint and no EX
abbrev nested : ℕ → FormulaFacts
nested n = record { nesting = n; fixpoint = false; ex = false }

-- worked example 1 with formula p, which report prints: rounds 2, row 0: 1, score 1, formula 0: 1 1. For request 104: the table 0 is sound and not
-- tight, 1 is tight, and 2 is too high. For request 105: its case has 42 bytes, which 41 cannot hold
abbrev pub calls1 : List (Call × Reply)
calls1 =
    (Call.Open report_case, Reply.Opened)
    ∷ (Call.Step, Reply.Round 1 1)
    ∷ (Call.Step, Reply.Settled 2 1)
    ∷ (Call.Show, Reply.Shown (1 ∷ []))
    ∷ (Call.Ask Question.Score, Reply.Element 1)
    ∷ (Call.Ask (Question.Whole 0 1), Reply.FormulaValue 1 (nested 0))
    ∷ (Call.Ask (Question.Whole 0 2), Reply.FormulaValue 1 (nested 0))
    ∷ (Call.Ask (Question.Judge (0 ∷ [])), Reply.Says true)
    ∷ (Call.Ask (Question.Judge (1 ∷ [])), Reply.Says true)
    ∷ (Call.Ask (Question.Judge (2 ∷ [])), Reply.Says false)
    ∷ (Call.Ask (Question.Write (replicate 41 7)), Reply.Refused 14 255)
    ∷ (Call.Ask (Question.Write (replicate 44 7)), Reply.Length 42)
    ∷ []

-- what the last of these leaves in its buffer: the case, which has no gaps, and the two bytes after it as they were
abbrev pub LeavesCase : Type 0
LeavesCase = (perform (Call.Ask (Question.Write (replicate 44 7))) (run (map (λ x. x.0) calls1) zeros)).lent ≡ (report_case ++ (7 ∷ 7 ∷ [])) ∷ []

-- worked example 4 with AX of not-p: 'Round 1 is 1 0 / 0 0, round 2 all 0, T = 3. AX of not-p has value 1 at state 0 of model 2 and 0 in
-- model 1'; state 0 is initial in both. For request 107: round 1 lowers three entries, round 2 one, and round 3 none
abbrev pub example4 : List ℕ
example4 =
    gapless
    (
    (2 ∷ 1 ∷ 0 ∷ 1 ∷ 1 ∷ 0 ∷ 1 ∷ [])
    ∷ (2 ∷ 1 ∷ 1 ∷ 0 ∷ 0 ∷ 1 ∷ 0 ∷ 1 ∷ 0 ∷ 0 ∷ [])
    ∷ (2 ∷ 1 ∷ 1 ∷ 0 ∷ 0 ∷ 0 ∷ 0 ∷ 1 ∷ 0 ∷ 0 ∷ [])
    ∷ (7 ∷ 3 ∷ 0 ∷ [])
    ∷ []
    )

-- the refused calls among them
abbrev pub calls4 : List (Call × Reply)
calls4 =
    (Call.Show, Reply.Shown [])
    ∷ (Call.Step, Reply.Refused 12 255)
    ∷ (Call.Open [], Reply.Refused 1 255)
    ∷ (Call.Open example4, Reply.Opened)
    ∷ (Call.Step, Reply.Row 0)
    ∷ (Call.Show, Reply.Shown (1 ∷ 1 ∷ 1 ∷ 1 ∷ []))
    ∷ (Call.Open (3 ∷ []), Reply.Refused 2 255)
    ∷ (Call.Step, Reply.Round 1 3)
    ∷ (Call.Show, Reply.Shown (1 ∷ 0 ∷ 0 ∷ 0 ∷ []))
    ∷ (Call.Ask (Question.Share 1), Reply.PerCent 25)
    ∷ (Call.Ask (Question.Value 0 2 0), Reply.FormulaValue 1 (nested 1))
    ∷ (Call.Ask (Question.Value 0 1 0), Reply.FormulaValue 0 (nested 1))
    ∷ (Call.Ask (Question.Value 1 1 0), Reply.Refused 13 255)
    ∷ (Call.Ask (Question.Value 0 0 0), Reply.Refused 13 255)
    ∷ (Call.Ask (Question.Value 0 1 2), Reply.Refused 13 255)
    ∷ (Call.Step, Reply.Row 3)
    ∷ (Call.Step, Reply.Round 2 4)
    ∷ (Call.Show, Reply.Shown (0 ∷ 0 ∷ 0 ∷ 0 ∷ []))
    ∷ (Call.Step, Reply.Row 4)
    ∷ (Call.Step, Reply.Settled 3 4)
    ∷ (Call.Step, Reply.Settled 3 4)
    ∷ (Call.Ask Question.Score, Reply.Element 0)
    ∷ (Call.Ask (Question.Whole 0 2), Reply.FormulaValue 1 (nested 1))
    ∷ (Call.Ask (Question.Judge (0 ∷ 0 ∷ 0 ∷ 0 ∷ [])), Reply.Says true)
    ∷ (Call.Ask (Question.Judge (1 ∷ 0 ∷ 0 ∷ 0 ∷ [])), Reply.Says false)
    ∷ (Call.Ask (Question.Judge (2 ∷ 0 ∷ 0 ∷ 0 ∷ [])), Reply.Refused 13 255)
    ∷ (Call.Ask (Question.Share 2), Reply.Refused 13 255)
    ∷ []

-- the calls of a list, from a desk, answer as the list says; from a desk of zeros
abbrev pub AnswersFrom : Desk → List (Call × Reply) → Type 0
AnswersFrom d l = replies (map (λ x. x.0) l) d ≡ map (λ x. x.1) l

abbrev pub AnswersAs : List (Call × Reply) → Type 0
AnswersAs = AnswersFrom zeros

-- ---- lowerings on desks altered from outside, within the rules of 12 (request 107)

-- L2, no propositions; model 1: 0 to 1; model 2: one state, no transition. Round 1 is 0 / 1 and lowers one entry, in row 0; T = 2. N1·N2·(n − 1) is 2
abbrev pub two_rows : List ℕ
two_rows = gapless ((2 ∷ 1 ∷ 0 ∷ 1 ∷ 1 ∷ 0 ∷ 1 ∷ []) ∷ (2 ∷ 0 ∷ 1 ∷ 0 ∷ 0 ∷ 1 ∷ 0 ∷ 0 ∷ []) ∷ (1 ∷ 0 ∷ 1 ∷ 0 ∷ []) ∷ [])

-- a desk that holds it at round 0, with this next row, count of lowerings, and first byte of the second table; nothing is said to have changed
abbrev pub two_rows_at : ℕ → ℕ → ℕ → Desk
two_rows_at row lowerings byte =
    record {
      standing = record { states1 = 2; states2 = 1; round = 0; row = row; changed = false; settled = false; second_whole = false; lowerings = lowerings };
      store = (run (Call.Open two_rows ∷ []) zeros).store;
      first = 1 ∷ 1 ∷ replicate 4094 0;
      second = byte ∷ 1 ∷ replicate 4094 0;
    }

-- the count at its limit: a step that goes over it is accepted and carries the new count, and the next call gets 12
abbrev pub at_limit : Desk
at_limit = two_rows_at 0 2 1

-- row 0 was worked and the standing does not say that it changed something: 'the two tables are compared', and so Settled comes with a count that has risen
abbrev pub unsaid : Desk
unsaid = two_rows_at 1 0 0

-- row 0 was not worked: what stands in its place is compared
abbrev pub skipped : Desk
skipped = two_rows_at 1 0 1

abbrev pub AlteredAnswer : Type 0
AlteredAnswer =
    AnswersFrom at_limit ((Call.Step, Reply.Row 2) ∷ (Call.Step, Reply.Round 1 3) ∷ (Call.Step, Reply.Refused 12 255) ∷ [])
    × AnswersFrom unsaid ((Call.Step, Reply.Settled 1 1) ∷ (Call.Step, Reply.Settled 1 1) ∷ [])
    × AnswersFrom skipped ((Call.Step, Reply.Settled 1 0) ∷ [])

-- ---- they hold

pub examples-answer : AnswersAs calls1 × AnswersAs calls4 × LeavesCase × AlteredAnswer
unfolding imp iff big_meet big_join iterate bind all_next some_next eval value_at whole_value proposition_part successor_part F round_of score count share sum differing is_meet is_join meet_of join_of top_of bot_of element closed_under over_props nested_binders nested_AX fixpoint_free universal all_below first_below is_panel lattice_of explicit_form lattice_form reflexive antisymmetric transitive partial_order meets_and_joins distributive complement_rules require part_reading lattice_reading elements_only model_test by_code parse formula_reading part_start part_size placed misplaced parts_from formulas_reading models_reading case_reading pairs joined gapless tab row_same changed_below row_at_most post_fixed_test short rules_obeyed spoiled examined accepted opened worked stepped answer moved lent_after perform run replies
examples-answer = (refl, refl, refl, (refl, refl, refl))
