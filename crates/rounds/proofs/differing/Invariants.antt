use Rattle.rounds.specs.Compared.{Compared}
use Rattle.rounds.proofs.differing.Given as goal

abbrev pub invariant-loop-i : goal.invariant-loop-i
invariant-loop-i l = Compared l.a l.b l.i l.c
