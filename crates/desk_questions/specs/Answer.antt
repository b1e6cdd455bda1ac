-- What the calls that only read the desk answer, in the desk's terms: for each result the number and values that document 01 gives. Rests on
-- desk_check's Answer, and desk's Desk.
--   Reads, Asks: what a call that only reads the desk does, and a question; ReadsWith, AsksWith: those that are lent buffers to write into
--   element_reply, value_reply, share_reply, judge_reply, length_reply: each result as the desk's reply
use Rattle.std.specs.Prelude.{ℕ, Bool, List, [], Result}
use Rattle.elements.specs.declared.Element.{Element}
use Rattle.refusal.specs.declared.Refusal.{Refusal}
use Rattle.desk_check.specs.Answer.{DoesWith, result_reply}
use Rattle.desk.specs.Desk.{Desk, Call, Question, Reply}
use Rattle.desk_questions.specs.declared.Valued.{Valued}

-- the call k on the desk d answers x and leaves that desk, and `lent` in the buffers that it is lent to write into
abbrev pub ReadsWith : List (List ℕ) → Call → Desk → Reply → Type 0
ReadsWith lent k d x = DoesWith lent k d x d

-- one that is lent none; a question
abbrev pub Reads : Call → Desk → Reply → Type 0
Reads = ReadsWith []

abbrev pub Asks : Question → Desk → Reply → Type 0
Asks q = Reads (Call.Ask q)

abbrev pub AsksWith : List (List ℕ) → Question → Desk → Reply → Type 0
AsksWith lent q = ReadsWith lent (Call.Ask q)

abbrev pub element_reply : Result Element Refusal → Reply
element_reply = result_reply (λ e. Reply.Element e.0)

abbrev pub value_reply : Result Valued Refusal → Reply
value_reply = result_reply (λ v. Reply.FormulaValue v.value.0 v.facts)

abbrev pub share_reply : Result ℕ Refusal → Reply
share_reply = result_reply Reply.PerCent

abbrev pub judge_reply : Result Bool Refusal → Reply
judge_reply = result_reply Reply.Says

abbrev pub length_reply : Result ℕ Refusal → Reply
length_reply = result_reply Reply.Length
