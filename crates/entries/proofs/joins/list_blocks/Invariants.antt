use Rattle.std.proofs.Common.{◌≤◌, ◌*◌}
use Rattle.entries.specs.Joins.{Listed}
use Rattle.entries.proofs.joins.list_blocks.Given as goal

abbrev pub invariant-loop-b : goal.invariant-loop-b
invariant-loop-b l = (l.count ≤ l.b) × Listed l.row l.starts l.count (l.b * 16)
