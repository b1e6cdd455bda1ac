-- The measure of the cycle is twice the bytes left, and one more for `iterate` and `second`. In the iteration's loop it is the rounds left.
use Rattle.std.proofs.Common.{◌+◌, ◌-◌, ◌*◌, length}
use Rattle.valuer.proofs.Rounds.{Turned}
use Rattle.valuer.proofs.valuation.Valuation.+iterate_node_second.Given as goal

abbrev pub decreases-iterate : goal.decreases-iterate
decreases-iterate l = (length l.self.now.formula.now - l.body) * 2 + 1

abbrev pub decreases-second : goal.decreases-second
decreases-second l = (length l.self.now.formula.now - l.at) * 2 + 1

abbrev pub decreases-node : goal.decreases-node
decreases-node l = (length l.self.now.formula.now - l.at) * 2

-- as many rounds were taken as the loop has turned, and `current` is what they gave
abbrev pub invariant-iterate-loop : goal.invariant-iterate-loop
invariant-iterate-loop l = Turned l.self.successors.codes.now.words l.self.successors.lattice l.self.successors.model.bytes.now l.self.formula.now l.body l.scope.near.now l.scope.mid.now l.start l.counter l.current
