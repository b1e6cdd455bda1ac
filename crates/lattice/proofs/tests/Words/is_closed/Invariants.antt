use Rattle.std.proofs.Common.{length}
use Rattle.theory.specs.Loop.{Passed}
use Rattle.theory.specs.Test.{all_below}
use Rattle.lattice_codes.specs.Tests.{words_in, pair_closed}
use Rattle.lattice.proofs.tests.Words.is_closed.Given as goal

abbrev pub invariant-loop-a : goal.invariant-loop-a
invariant-loop-a g l = Passed (λ a. all_below (length l.self.words.now) (pair_closed (length l.self.words.now) (words_in l.self.words.now) l.mask g.joins a)) l.a-counter
