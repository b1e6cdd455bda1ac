use Rattle.std.proofs.Common.{get_or}
use Rattle.theory.specs.Loop.{Counted}
use Rattle.elements.specs.Words.{at_most_in}
use Rattle.share.proofs.count.Given as goal

abbrev pub invariant-loop-x : goal.invariant-loop-x
invariant-loop-x l = Counted (λ j. at_most_in l.w.words l.e.0 (get_or l.s j 0)) l.x-index l.c
