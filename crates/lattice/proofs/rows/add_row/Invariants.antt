use Rattle.lattice.specs.Rows.{Rowed}
use Rattle.lattice.proofs.rows.add_row.Given as goal

abbrev pub invariant-loop-j : goal.invariant-loop-j
invariant-loop-j l = Rowed l.row 0 l.fn.i l.j l.initial.down l.down
