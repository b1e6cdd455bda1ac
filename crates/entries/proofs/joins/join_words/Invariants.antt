use Rattle.std.proofs.Common.{◌+◌, get_or, bit_or}
use Rattle.theory.specs.Loop.{Folded}
use Rattle.entries.proofs.joins.join_words.Given as goal

abbrev pub invariant-loop-y : goal.invariant-loop-y
invariant-loop-y l = Folded bit_or 0 (λ j. get_or l.row (0 + j) 0) l.y-index l.x
