use Rattle.theory.specs.Lists.{Filled}
use Rattle.lattice_codes.specs.Tests.{codes_by}
use Rattle.lattice.proofs.tests.Words.fill_codes.Given as goal

abbrev pub invariant-loop-a : goal.invariant-loop-a
invariant-loop-a l = Filled (codes_by l.self.words.now l.mask) l.a l.codes
