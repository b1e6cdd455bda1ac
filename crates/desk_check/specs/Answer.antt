-- What the examination of a desk answers, and what a call does. Rests on Read, desk's Perform, casefile's Answer.
--   rules_of: the rules of 12 beside the store's reading
--   DeskExamined: what the examination answers
--   Does, DoesWith: what a call does, without and with buffers that it is lent to write into
--   result_reply: a call's result as the desk's reply: the number and values that document 01 gives for an Ok, and the refusal's
use Rattle.std.specs.Prelude.{ℕ, ◌*◌, Bool, ◌&&◌, ◌≡◌, List, [], Result, Ok, Err}
use Rattle.lattice.specs.Answer.{CodesOf}
use Rattle.casefile.specs.Reading.{Content, CaseReading, refused, content}
use Rattle.casefile.specs.Answer.{sizes_of}
use Rattle.casefile.specs.declared.Sizes.{Sizes}
use Rattle.desk.specs.Desk.{Desk, Call, Reply}
use Rattle.desk.specs.Refused.{standing_obeys, table_obeys, examined, number_reply}
use Rattle.desk.specs.Perform.{perform}
use Rattle.desk_check.specs.declared.Standing.{Standing}
use Rattle.refusal.specs.declared.Refusal.{Refusal}
use Rattle.desk_check.specs.Read.{standing_of}

-- the rules of 12 beside the store's reading, for the sizes z; they do not look at the store
abbrev pub rules_of : Standing → Sizes → List ℕ → List ℕ → Bool
rules_of s z first second =
    standing_obeys z.states1 z.states2 z.lattice.size (standing_of s)
    && table_obeys (z.states1 * z.states2) z.lattice.size first
    && table_obeys (z.states1 * z.states2) z.lattice.size second

abbrev pub examined_answer : CaseReading → Result Sizes Refusal
examined_answer (refused r) = Err r
examined_answer (content c) = Ok (sizes_of c)

-- The examination that every call but open makes, before its own arguments: 11, 12, or the sizes of the content. Where the desk is
-- held, the words w are the codes of its lattice.
pub record DeskExamined (d : Desk) (r : Result Sizes Refusal) (w : List ℕ) : Type 0 where
  pub answer : r ≡ examined_answer (examined Call.Step d)
  pub codes : (c : Content) → examined Call.Step d ≡ content c → CodesOf c.lattice w

-- the call k on the desk d answers x, leaves the desk e, and leaves `lent` in the buffers that it is lent to write into
abbrev pub DoesWith : List (List ℕ) → Call → Desk → Reply → Desk → Type 0
DoesWith lent k d x e = perform k d ≡ record { reply = x; desk = e; lent = lent }

-- the same of a call that is lent none
abbrev pub Does : Call → Desk → Reply → Desk → Type 0
Does = DoesWith []

-- what a call's result says, with the reply that each value of an Ok is
abbrev pub result_reply : {T : Type 0} → (T → Reply) → Result T Refusal → Reply
result_reply reply (Ok x) = reply x
result_reply reply (Err r) = number_reply r
