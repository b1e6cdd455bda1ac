-- `test_limits::over` is safe and ends: a model that the check accepts is one over the lattice.
use Rattle.valuer.specs.Over.{over_checked}
use Rattle.test_limits.proofs.over.Goals as goal

pub invariant_of-v : goal.invariant_of-v
invariant_of-v g c = record { over = over_checked c.args.a.now.coded _ _ _ c.in-Some.is c.check.ensures; full = c.requires.0 }
