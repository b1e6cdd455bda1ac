use Rattle.std.proofs.Common.{get_or, bit_and, bit_or}
use Rattle.theory.specs.Loop.{Folded}
use Rattle.entries.proofs.joins.join_met.Given as goal

abbrev pub invariant-loop-i : goal.invariant-loop-i
invariant-loop-i l = Folded bit_or l.x (λ i. bit_and (get_or l.row i 0) (get_or l.codes i 0)) l.i l.joined
