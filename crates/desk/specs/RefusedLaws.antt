-- Theorems on which refusal a call gets, or the content that it works on: for demand 1, demand 3 and the proofs of the code.
-- Rests on Refused, Perform, Run and RulesLaws.
-- Here stand the definitions; the theorems are in proofs/RefusedLaws.
--   OpenAccepted, open_accepted, OtherAccepted, other_accepted: what an accepted call knows of its desk
--   Outcome, outcome: what may come of a call that does not open; opens_or_not: a call opens or does not
use Rattle.std.specs.Prelude.{ℕ, ◌≡◌, true, false, List}
use Rattle.std.proofs.Math.Option.{none, some}
use Rattle.refusal.specs.declared.Refusal.{Refusal}
use Rattle.refusal.specs.declared.Refusal.TheVariants.{ShortDesk, SpoiledDesk}
use Rattle.casefile.specs.Reading.{Content, refused, content, case_reading}
use Rattle.desk.specs.Desk.{Desk, Call}
use Rattle.desk.specs.View.{view_of}
use Rattle.desk.specs.Refused.{short, Rules, call_conditions, first_refusal, examined}

-- the desk is long enough, its store holds c, and no rule of 12 is broken
pub record Unspoiled (d : Desk) (c : Content) : Type 0 where
  pub long : short d ≡ false
  pub rules : Rules d c

-- open: the desk is long enough and its case is accepted
pub record OpenAccepted (b : List ℕ) (d : Desk) (c : Content) : Type 0 where
  pub long : short d ≡ false
  pub reads : case_reading b ≡ content c

-- every other call: what may come of it
pub data Outcome (k : Call) (d : Desk) : Type 0 where
  too_short_lem : short d ≡ true → examined k d ≡ refused ShortDesk → Outcome k d
  broken : short d ≡ false → ((c : Content) → ¬ Rules d c) → examined k d ≡ refused SpoiledDesk → Outcome k d
  outside : (c : Content) → Unspoiled d c → (r : Refusal) → first_refusal (call_conditions k) (view_of c d) ≡ some r → examined k d ≡ refused r → Outcome k d
  inside : (c : Content) → Unspoiled d c → first_refusal (call_conditions k) (view_of c d) ≡ none → examined k d ≡ content c → Outcome k d

-- it is accepted where the desk is long enough and not spoiled, and its own conditions hold
pub record OtherAccepted (k : Call) (d : Desk) (c : Content) : Type 0 where
  pub held : Unspoiled d c
  pub range : first_refusal (call_conditions k) (view_of c d) ≡ none
