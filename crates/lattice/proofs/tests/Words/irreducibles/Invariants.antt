use Rattle.std.proofs.Common.{◌≡◌, length}
use Rattle.elements.specs.Bits.{bits}
use Rattle.lattice_codes.specs.Tests.{words_in, irreducible}
use Rattle.lattice.proofs.tests.Words.irreducibles.Given as goal

abbrev pub invariant-loop-a : goal.invariant-loop-a
invariant-loop-a l = l.x ≡ bits l.a (irreducible (length l.self.words.now) (words_in l.self.words.now))
