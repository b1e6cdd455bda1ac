-- `test_rounds::example` meets its contract: an accepted part leaves its codes.
use Rattle.lattice.specs.Caller.{when_accepted}
use Rattle.test_rounds.proofs.example.Goals as goal

pub invariant_of-a : goal.invariant_of-a
invariant_of-a g c = record { coded = (when_accepted _ _ _ (rw c.in-Ok.is at c.check.ensures)).coded }
