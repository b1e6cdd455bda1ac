use Rattle.std.proofs.Common.{get_or}
use Rattle.entries.specs.Words.{Rows}
use Rattle.entries.specs.Codes.{table_code}
use Rattle.entries.proofs.encode_rows.Given as goal

abbrev pub invariant-loop-q : goal.invariant-loop-q
invariant-loop-q l = let n₂ = get_or l.t.models.second.bytes.now 0 0 in Rows (table_code l.w.words l.t.bytes.now n₂) l.q n₂ l.out
