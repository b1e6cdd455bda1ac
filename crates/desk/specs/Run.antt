-- Lists of calls, and what demand 3 says of one: the last accepted opening, s, r and the last step's answer. Rests on Desk, Case, Refused, Perform.
--   run, replies: the desk after a list of calls, and what they answer
--   openings, step_answers: how many openings among them are accepted, and what the accepted steps answer
--   LastOpening, answers_since: the last accepted opening, and the answers of the accepted steps since
--   round_after, lowerings_after, answer_after: r, the lowerings, and the last step's answer; view_after: all that a question depends on
--   AnsweredFrom: a question on a desk is answered from a view
use Rattle.std.specs.Prelude.{ℕ, ◌+◌, ◌/◌, ◌%◌, min, ◌≡◌, true, cond, ◌&&◌, ◌↔◌, List, [], ◌∷◌, ◌++◌, eqb}
use Rattle.theory.specs.Simulation.{indicator}
use Rattle.refusal.specs.declared.Refusal.{Refusal}
use Rattle.casefile.specs.Reading.{Content, content}
use Rattle.desk.specs.Desk.{Desk, Question, Call, Reply, is_open, is_step, lent_buffers}
use Rattle.desk.specs.Case.{N1, round_in, lowerings_in}
use Rattle.desk.specs.View.{View}
use Rattle.desk.specs.Refused.{conditions, InRange, FirstBroken, examined, accepted, number_reply}
use Rattle.desk.specs.Perform.{perform, answer_to}

-- 'Each call, refused or not, gets these as the call before left them, and nobody writes them in between.'
unfoldable pub run : List Call → Desk → Desk
run [] d = d
run (k ∷ ks) d = run ks (perform k d).desk

-- the number of accepted openings in a list
unfoldable pub openings : List Call → Desk → ℕ
openings [] d = 0
openings (k ∷ ks) d = indicator (is_open k && accepted k d) + openings ks (perform k d).desk

-- the answers of the accepted steps in a list, the first of them first
unfoldable pub step_answers : List Call → Desk → List Reply
step_answers [] d = []
step_answers (k ∷ ks) d = cond (is_step k && accepted k d) ((perform k d).reply ∷ step_answers ks (perform k d).desk) (step_answers ks (perform k d).desk)

-- what the calls of a list answer, in order
unfoldable pub replies : List Call → Desk → List Reply
replies [] d = []
replies (k ∷ ks) d = (perform k d).reply ∷ replies ks (perform k d).desk

-- ---- what demand 3 speaks of

-- 'the last such opening': the calls before it, its case, and the calls after it, of which no opening is accepted
pub record LastOpening (ks : List Call) (d : Desk) : Type 0 where
  pub before : List Call
  pub case : List ℕ
  pub after : List Call
  pub list : ks ≡ before ++ (Call.Open case ∷ after)
  -- what the case holds: 'The lattice, models and formulas are those in the case of the last accepted opening.'
  pub holds : Content
  pub opens : examined (Call.Open case) (run before d) ≡ content holds
  pub last : openings after (perform (Call.Open case) (run before d)).desk ≡ 0

-- the answers of the accepted steps since that opening
abbrev pub answers_since : {ks : List Call} {d : Desk} → LastOpening ks d → List Reply
answers_since {ks} {d} l = step_answers l.after (perform (Call.Open l.case) (run l.before d)).desk

-- 'r the smaller of s divided by N1 (rounded down) and T'
abbrev pub round_after : Content → ℕ → ℕ → ℕ
round_after c T s = min (s / N1 c) T

-- the count of lowerings after s accepted steps: that of the rounds 1 to r (request 107)
abbrev pub lowerings_after : Content → ℕ → ℕ → ℕ
lowerings_after c T s = lowerings_in c (round_after c T s)

-- 'answered Settled(T) when r = T, else Round(r) when s is a multiple of N1, else Row', and each carries that count
abbrev pub answer_after : Content → ℕ → ℕ → Reply
answer_after c T s =
    cond (eqb (round_after c T s) T) (Reply.Settled T (lowerings_after c T s))
    (cond (eqb (s % N1 c) 0) (Reply.Round (round_after c T s) (lowerings_after c T s)) (Reply.Row (lowerings_after c T s)))

-- the view of a desk after s accepted steps: round r, settled exactly when r = T, and the table of round r shown
abbrev pub view_after : Content → ℕ → ℕ → View
view_after c T s = record { holds = c; round = round_after c T s; settled = eqb (round_after c T s) T; shown = round_in c (round_after c T s) }

-- 'when accepted, what their definitions give for that case with round r shown': the question q on the desk d is answered from the view v. It
-- is accepted exactly when its conditions hold for v, and then answers what it answers from v, and leaves that in the buffers that it is
-- lent; else it is refused for the first condition that is broken. The desk is as it was.
pub record AnsweredFrom (q : Question) (d : Desk) (v : View) : Type 0 where
  pub accepts : (accepted (Call.Ask q) d ≡ true) ↔ InRange q v
  pub answers : InRange q v → perform (Call.Ask q) d ≡ record { reply = (answer_to q v).reply; desk = d; lent = (answer_to q v).lent }
  pub refuses : (r : Refusal) → FirstBroken r (conditions q) v → perform (Call.Ask q) d ≡ record { reply = number_reply r; desk = d; lent = lent_buffers q }
