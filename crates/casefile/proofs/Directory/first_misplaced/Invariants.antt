use Rattle.casefile.specs.Misplaced.{PlacedUpto}
use Rattle.casefile.proofs.Directory.first_misplaced.Given as goal

abbrev pub invariant-loop-i : goal.invariant-loop-i
invariant-loop-i l = PlacedUpto l.self.bytes.now l.i l.from
