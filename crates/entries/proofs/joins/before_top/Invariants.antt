use Rattle.std.proofs.Common.{◌≡◌}
use Rattle.entries.specs.Joins.{join_code, block_from}
use Rattle.entries.proofs.joins.before_top.Given as goal

abbrev pub invariant-loop-start : goal.invariant-loop-start
invariant-loop-start l = (l.x ≡ join_code l.r.row.now l.codes 0 (block_from l.r.starts.now l.start-index)) × (l.x ≡ l.r.top → ⊥)
