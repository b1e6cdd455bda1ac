use Rattle.std.proofs.Common.{◌≤◌}
use Rattle.valuer_maps.specs.Successors.{leads_to, ListedSoFar}
use Rattle.valuer_maps.proofs.successors.list_row.Given as goal

abbrev pub invariant-loop-r : goal.invariant-loop-r
invariant-loop-r l = record {
  few : l.count ≤ l.r;
  row : ListedSoFar (leads_to l.w.words l.top l.m.bytes.now l.q.0) 0 l.r l.count l.initial.row l.row;
}
