use Rattle.entries.specs.Prepared.{MetSoFar}
use Rattle.entries.proofs.meet.Given as goal

abbrev pub invariant-loop-q : goal.invariant-loop-q
invariant-loop-q l = MetSoFar l.x l.r.top l.left l.r.row.now l.table l.r.states l.q l.y l.pairs
