-- `test_valuer::work` is safe and ends: the model is accepted over the lattice.
use Rattle.std.proofs.Common.{refl}
use Rattle.valuer.specs.Over.{over_checked}
use Rattle.test_valuer.proofs.work.Goals as goal

pub show_all-requires : goal.show_all-requires
show_all-requires g c = (over_checked c.args.a.now.coded _ _ _ c.in-Some.is c.check.ensures, refl)
