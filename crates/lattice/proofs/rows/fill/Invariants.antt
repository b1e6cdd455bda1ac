use Rattle.lattice.specs.Rows.{Down}
use Rattle.lattice.proofs.rows.fill.Given as goal

abbrev pub invariant-loop-i : goal.invariant-loop-i
invariant-loop-i l = Down l.s 0 l.n l.i l.down
