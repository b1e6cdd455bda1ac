-- `test_limits::checked` is safe and ends: the codes of an accepted part are as the crates ask.
use Rattle.lattice.specs.Caller.{when_accepted}
use Rattle.test_limits.proofs.checked.Goals as goal

pub invariant_of-a : goal.invariant_of-a
invariant_of-a g c = record { coded = (when_accepted _ _ _ (rw c.in-Ok.is at c.check.ensures)).coded }
