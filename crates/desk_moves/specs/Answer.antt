-- What open and step answer, in the desk's terms: for each result the number and values that document 01 gives. Rests on desk_check's Answer
-- and Read, and desk's Moved.
--   progress_reply, step_reply, open_reply: each result as the desk's reply
--   Leaves: what a step gives leaves a standing, and answers by it
use Rattle.std.specs.Prelude.{◌≡◌, Result}
use Rattle.refusal.specs.declared.Refusal.{Refusal}
use Rattle.desk.specs.Desk.{Standing, Reply}
use Rattle.desk.specs.Moved.{step_answer}
use Rattle.desk_check.specs.Read.{standing_of}
use Rattle.desk_check.specs.Answer.{result_reply}
use Rattle.desk_moves.specs.declared.Progress.{Progress}
use Rattle.desk_moves.specs.declared.Progress.TheVariants as progress
use Rattle.desk_moves.specs.declared.Stepped.{Stepped}

abbrev pub progress_reply : Progress → Reply
progress_reply (progress.Row n) = Reply.Row n
progress_reply (progress.Round r n) = Reply.Round r n
progress_reply (progress.Settled t n) = Reply.Settled t n

abbrev pub step_reply : Result Progress Refusal → Reply
step_reply = result_reply progress_reply

abbrev pub open_reply : Result (Unit {0}) Refusal → Reply
open_reply = result_reply (λ _. Reply.Opened)

-- the desk is left with the standing s, and answered by it
pub record Leaves (s : Standing) (r : Stepped) : Type 0 where
  pub standing : standing_of r.standing ≡ s
  pub answer : step_reply r.answer ≡ step_answer s
