use Rattle.valuer_maps.specs.Successors.{RowsListed}
use Rattle.valuer_maps.proofs.successors.list_successors.Given as goal

abbrev pub invariant-loop-q : goal.invariant-loop-q
invariant-loop-q l = RowsListed l.w.words l.top l.m.bytes.now l.q l.out
