use Rattle.std.proofs.Common.{false}
use Rattle.lattice.proofs.reason.Given as goal

abbrev pub ghost-is_closed : goal.ghost-is_closed
ghost-is_closed a = false
