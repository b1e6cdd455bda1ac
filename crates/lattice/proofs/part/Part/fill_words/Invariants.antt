use Rattle.theory.specs.Lists.{Filled}
use Rattle.lattice.specs.Reading.{lattice_of}
use Rattle.lattice.specs.Filling.{words_by}
use Rattle.lattice.proofs.part.Part.fill_words.Given as goal

abbrev pub invariant-loop-k : goal.invariant-loop-k
invariant-loop-k l = Filled (words_by (lattice_of l.self.bytes.now) l.codes) l.k l.w.words
