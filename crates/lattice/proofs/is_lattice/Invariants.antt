use Rattle.std.proofs.Common.{true}
use Rattle.lattice.proofs.is_lattice.Given as goal

abbrev pub ghost-is_closed : goal.ghost-is_closed
ghost-is_closed a = true
