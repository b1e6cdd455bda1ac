use Rattle.std.proofs.Common.{◌-◌, length}
use Rattle.formula.proofs.+node.Given as goal

abbrev pub decreases-node : goal.decreases-node
decreases-node l = length l.f.now - l.at
