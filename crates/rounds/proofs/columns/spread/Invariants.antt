use Rattle.std.proofs.Common.{get_or}
use Rattle.rounds.specs.Rows.{Spread}
use Rattle.rounds.proofs.columns.spread.Given as goal

abbrev pub invariant-loop-i : goal.invariant-loop-i
invariant-loop-i l = Spread (λ i. get_or l.row i 0) l.i l.column l.initial.out l.out
