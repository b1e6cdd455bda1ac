use Rattle.casefile.specs.Writer.{Measured}
use Rattle.casefile.proofs.Case.gapless_length.Given as goal

abbrev pub invariant-loop-i : goal.invariant-loop-i
invariant-loop-i l = Measured l.self.bytes.now l.i l.length
