use Rattle.std.proofs.Common.{get_or}
use Rattle.entries.specs.Words.{Rows}
use Rattle.entries.specs.Codes.{table_code}
use Rattle.rounds.proofs.columns.encode_columns.Given as goal

abbrev pub invariant-loop-q : goal.invariant-loop-q
invariant-loop-q l = Rows (λ q₂ q₁. table_code l.w.words l.t.bytes.now (get_or l.t.models.second.bytes.now 0 0) q₁ q₂) (get_or l.t.models.second.bytes.now 0 0) l.q l.out
