-- `test_valuer::main` is safe and ends: the codes of an accepted part are a lattice's.
use Rattle.lattice.specs.Caller.{when_accepted}
use Rattle.test_valuer.proofs.main.Goals as goal

pub invariant_of-work : goal.invariant_of-work
invariant_of-work c = record { coded = (when_accepted _ _ _ (rw c.in-Ok.is at c.check.ensures)).coded }
