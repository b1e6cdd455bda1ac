-- `entries::meet_state` meets its contract: a state that is passed over, and any other.
use Rattle.std.proofs.Common.{not, eqb, eqb-true}
use Rattle.std.proofs.lemmas.Bool.{not-true}
use Rattle.theory.specs.TestLaws.{and_l, and_r}
use Rattle.entries.specs.Prepared.{state_joined, state_passed}
use Rattle.entries.proofs.meet_state.Goals as goal

pub returns-then-c-r : goal.returns-then-c-r
returns-then-c-r c =
    let a = c.args in
    let r = a.r.now in
    let h = a.r.now in
    let t = c.if-c-r.true in
    state_passed 0 c.requires.0 (eqb-true _ _ (and_l (eqb a.c r.top) (not r.ends) t)) h.within (h.may_end.no (not-true _ (and_r (eqb a.c r.top) (not r.ends) t))) h.gap.le

pub returns : goal.returns
returns c = state_joined c.join-j.ensures
