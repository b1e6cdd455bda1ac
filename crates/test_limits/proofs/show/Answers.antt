-- `test_limits::show` is safe and ends: a part that the check accepts is read as a formula.
use Rattle.test_limits.specs.Full.{full_reads}
use Rattle.test_limits.proofs.show.Goals as goal

pub show_value-requires : goal.show_value-requires
show_value-requires g c = full_reads c.args.v.now.model.bytes.now c.args.f.now _ _ c.args.v.now.full c.in-Some.is c.check.ensures
