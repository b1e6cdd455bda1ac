-- The rest of a round in one call: so many steps as the round has rows left. It is no call of its own. Rests on Refused, Perform and Run.
--   steps_left, by left_in: the steps that are left in the round
--   finished, by steps_done: the answer of the last of them, and the desk after them; Finishes: the same as a statement
--   Act: one of the calls, or the rest of a round; calls_for: the calls that a list of these amounts to; run_acts: the desk after it
use Rattle.std.specs.Prelude.{ℕ, ◌-◌, ◌≡◌, cond, List, [], ◌∷◌, ◌++◌, get_or, replicate}
use Rattle.casefile.specs.Reading.{CaseReading, refused, content}
use Rattle.desk.specs.Desk.{Desk, Call, Reply}
use Rattle.desk.specs.Case.{N1}
use Rattle.desk.specs.Refused.{examined}
use Rattle.desk.specs.Perform.{After, perform}
use Rattle.desk.specs.Run.{run, replies}

-- The rows from the next one to the last: 'after the last row the new table becomes the whole one'. A refused desk and a settled one have one
-- step: it is refused with the same number, or 'answers Settled(T) again'.
abbrev pub left_in : Desk → CaseReading → ℕ
left_in d (refused r) = 1
left_in d (content c) = cond d.standing.settled 1 (N1 c - d.standing.row)

unfoldable pub steps_left : Desk → ℕ
steps_left d = left_in d (examined Call.Step d)

-- 'Each call (..) gets these as the call before left them': what m steps do, with the answer of the last of them; Opened, which no step answers, where m is 0
abbrev pub steps_done : ℕ → Desk → After
steps_done m d = record { reply = get_or (replies (replicate m Call.Step) d) (m - 1) Reply.Opened; desk = run (replicate m Call.Step) d; lent = [] }

abbrev pub finished : Desk → After
finished d = steps_done (steps_left d) d

-- the rest of a round, on the desk d, answers x and leaves the desk e
abbrev pub Finishes : Desk → Reply → Desk → Type 0
Finishes d x e = finished d ≡ record { reply = x; desk = e; lent = [] }

-- ---- lists with such a call in them

pub data Act : Type 0 where
  One : Call → Act
  Rest : Act

-- the desk after them
unfoldable pub run_acts : List Act → Desk → Desk
run_acts [] d = d
run_acts (Act.One k ∷ xs) d = run_acts xs (perform k d).desk
run_acts (Act.Rest ∷ xs) d = run_acts xs (finished d).desk

-- the calls that they amount to, from the desk d
unfoldable pub calls_for : List Act → Desk → List Call
calls_for [] d = []
calls_for (Act.One k ∷ xs) d = k ∷ calls_for xs (perform k d).desk
calls_for (Act.Rest ∷ xs) d = replicate (steps_left d) Call.Step ++ calls_for xs (finished d).desk
