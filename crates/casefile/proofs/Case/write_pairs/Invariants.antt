use Rattle.casefile.specs.Writer.{PairsWritten}
use Rattle.casefile.proofs.Case.write_pairs.Given as goal

abbrev pub invariant-loop-i : goal.invariant-loop-i
invariant-loop-i l = PairsWritten l.self.bytes.now l.fn.out l.out l.i l.at
