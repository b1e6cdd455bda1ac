-- What each call answers and what it makes of the desk. Rests on Desk, Case, View, Refused, Moved, the theory, formula's Answer and
-- rounds' Table.
--   answer_to: what an accepted question answers, and what it leaves in the buffers that it is lent, from its view alone
--   writes: the answer of one that writes bytes into its lent buffer
--   answer, moved, lent_after: the answer of an accepted call, the desk after it, and what it leaves in the buffers that it is lent
--   perform: these three (After) of any call, once it is examined (performed); asked, show_answer: what a question and what show answers
use Rattle.std.specs.Prelude.{ℕ, List, [], ◌∷◌, length, take}
use Rattle.theory.specs.Lists.{written}
use Rattle.theory.specs.Value.{value_at, whole_value}
use Rattle.theory.specs.Simulation.{score, share}
use Rattle.formula.specs.Answer.{facts_of}
use Rattle.casefile.specs.Reading.{Content, CaseReading, refused, content}
use Rattle.rounds.specs.Table.{post_fixed_test}
use Rattle.desk.specs.Desk.{Desk, Question, Call, Reply, Answered, reply_alone, whole_table, call_lent_buffers}
use Rattle.desk.specs.Case.{ops, model1, model2, table_size, model_in, formula_in, operator, entry_at, case_bytes}
use Rattle.desk.specs.View.{View, given_table, view_of}
use Rattle.desk.specs.Refused.{examined, refused_reply}
use Rattle.desk.specs.Moved.{opened, stepped, step_answer}

-- ---- an accepted call, on the content c

-- x is written at the front of the lent buffer b: 'The answer is the length, and bytes past it are kept.'
abbrev pub writes : List ℕ → List ℕ → Answered
writes x b = record { reply = Reply.Length (length x); lent = written 0 x b ∷ [] }

-- 'value gives a formula's element at a state of model 1 or 2; whole on a model', and both 'pass these three on with the element', the formula's
-- facts (request 102); score and share are those of the shown entries; judge says yes exactly where 'S at or below F(S) everywhere', S being its
-- table (request 104); write 'the desk's case into a lent buffer' (request 105)
abbrev pub answer_to : Question → View → Answered
answer_to Question.Score v = reply_alone (Reply.Element (score (ops v.holds) (model1 v.holds) (model2 v.holds) v.shown))
answer_to (Question.Value f m q) v = reply_alone (Reply.FormulaValue (value_at (ops v.holds) (model_in v.holds m) (formula_in v.holds f) q) (facts_of (formula_in v.holds f)))
answer_to (Question.Whole f m) v = reply_alone (Reply.FormulaValue (whole_value (ops v.holds) (model_in v.holds m) (formula_in v.holds f)) (facts_of (formula_in v.holds f)))
answer_to (Question.Share e) v = reply_alone (Reply.PerCent (share (ops v.holds) (table_size v.holds) (entry_at v.holds v.shown) e))
answer_to (Question.Judge t) v =
    reply_alone (Reply.Says (post_fixed_test (ops v.holds) (model1 v.holds) (model2 v.holds) (operator v.holds) (given_table v.holds t)))
answer_to (Question.Write b) v = writes (case_bytes v.holds) b

-- 'show gives the first N1·N2 bytes of the whole table'
unfoldable pub answer : Call → Content → Desk → Reply
answer (Call.Open b) c d = Reply.Opened
answer Call.Step c d = step_answer (stepped c d).standing
answer Call.Show c d = Reply.Shown (take (table_size c) (whole_table d))
answer (Call.Ask q) c d = (answer_to q (view_of c d)).reply

-- 'The last six calls alter no buffer and no standing.' 'A new call on a desk .., unless it opens, alters neither desk nor standing' (request 105).
unfoldable pub moved : Call → Content → Desk → Desk
moved (Call.Open b) c d = opened c d
moved Call.Step c d = stepped c d
moved Call.Show c d = d
moved (Call.Ask q) c d = d

unfoldable pub lent_after : Call → Content → Desk → List (List ℕ)
lent_after (Call.Open b) c d = []
lent_after Call.Step c d = []
lent_after Call.Show c d = []
lent_after (Call.Ask q) c d = (answer_to q (view_of c d)).lent

-- ---- any call: its answer, the desk after it, and its lent buffers. 'A refusal alters no buffer and no standing.'

pub record After : Type 0 where
  pub reply : Reply
  pub desk : Desk
  pub lent : List (List ℕ)

abbrev pub performed : Call → Desk → CaseReading → After
performed k d (refused r) = record { reply = refused_reply k r; desk = d; lent = call_lent_buffers k }
performed k d (content c) = record { reply = answer k c d; desk = moved k c d; lent = lent_after k c d }

unfoldable pub perform : Call → Desk → After
unfolding examined
perform k d = performed k d (examined k d)

-- what a question answers
abbrev pub asked : Question → Desk → Reply
asked q d = (perform (Call.Ask q) d).reply

-- what show answers
abbrev pub show_answer : Desk → Reply
show_answer d = (perform Call.Show d).reply
