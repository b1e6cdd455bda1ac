use Rattle.casefile.specs.Writer.{PartsWritten}
use Rattle.casefile.proofs.Case.write_parts.Given as goal

abbrev pub invariant-loop-i : goal.invariant-loop-i
invariant-loop-i l = PartsWritten l.self.bytes.now l.fn.out l.out l.i l.place
