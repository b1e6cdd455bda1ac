use Rattle.std.proofs.Common.{◌≡◌, ◌+◌}
use Rattle.entries.specs.Joins.{join_code}
use Rattle.entries.proofs.joins.end_in_block.Given as goal

abbrev pub invariant-loop-j : goal.invariant-loop-j
invariant-loop-j l = (l.y ≡ join_code l.r.row.now l.codes 0 (l.i + l.j)) × (l.y ≡ l.r.top → ⊥)
