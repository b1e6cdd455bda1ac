-- Calls one after the other, each by its contract: from `Does` to lists of calls and demand 3. Rests on Answer, desk's Run and Demand3Holds.
--   CallDone: a call, and what its contract says of it; Consecutive: each is done on the desk that the one before left
--   calls_of, replies_of, desk_after: the calls, their replies, and the desk after the last
--   consecutive_run, consecutive_replies: these are what `run` and `replies` give; consecutive_claim: demand 3 of that desk
use Rattle.std.specs.Prelude.{ℕ, ◌≡◌, refl, List, [], ◌∷◌}
use Rattle.std.proofs.Common.{ap, ◌∙◌, subst}
use Rattle.desk.specs.Desk.{Desk, Call, Reply}
use Rattle.desk.specs.Case.{IsT}
use Rattle.desk.specs.Perform.{After}
use Rattle.desk.specs.Run.{run, replies, LastOpening, answers_since}
use Rattle.desk.specs.Demand3.{Claim}
use Rattle.desk.proofs.Demand3Holds.{listed}
use Rattle.desk_check.specs.Answer.{DoesWith}

-- a call, with its reply, the desk that it leaves, and what it leaves in the buffers that it is lent
pub record CallDone : Type 0 where
  pub call : Call
  pub reply : Reply
  pub desk : Desk
  pub lent : List (List ℕ)

-- 'Each call, refused or not, gets these as the call before left them, and nobody writes them in between.' A call that is lent no buffer has
-- `Does`, which is `DoesWith []`.
abbrev pub Consecutive : Desk → List CallDone → Type 0
Consecutive d [] = Unit {0}
Consecutive d (x ∷ xs) = DoesWith x.lent x.call d x.reply x.desk × Consecutive x.desk xs

abbrev pub calls_of : List CallDone → List Call
calls_of [] = []
calls_of (x ∷ xs) = x.call ∷ calls_of xs

abbrev pub replies_of : List CallDone → List Reply
replies_of [] = []
replies_of (x ∷ xs) = x.reply ∷ replies_of xs

abbrev pub desk_after : Desk → List CallDone → Desk
desk_after d [] = d
desk_after d (x ∷ xs) = desk_after x.desk xs

pub consecutive_run : (d : Desk) (xs : List CallDone) → Consecutive d xs → run (calls_of xs) d ≡ desk_after d xs
unfolding run
consecutive_run d [] h = refl
consecutive_run d (x ∷ xs) h = ap (λ (a : After). run (calls_of xs) a.desk) h.0 ∙ consecutive_run x.desk xs h.1

pub consecutive_replies : (d : Desk) (xs : List CallDone) → Consecutive d xs → replies (calls_of xs) d ≡ replies_of xs
unfolding replies
consecutive_replies d [] h = refl
consecutive_replies d (x ∷ xs) h =
    ap (λ (a : After). a.reply ∷ replies (calls_of xs) a.desk) h.0
    ∙ ap (λ (l : List Reply). x.reply ∷ l) (consecutive_replies x.desk xs h.1)

pub consecutive_claim : (d : Desk) (xs : List CallDone) → Consecutive d xs → (l : LastOpening (calls_of xs) d) (T : ℕ) → IsT l.holds T
    → Claim l.holds T (answers_since l) (desk_after d xs)
consecutive_claim d xs h l T t = subst (Claim l.holds T (answers_since l)) (consecutive_run d xs h) (listed (calls_of xs) d l T t)
