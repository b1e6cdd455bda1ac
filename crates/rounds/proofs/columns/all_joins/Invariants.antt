use Rattle.std.proofs.Common.{get_or}
use Rattle.entries.specs.Words.{Rows}
use Rattle.entries.specs.Codes.{inner_code}
use Rattle.rounds.specs.Codes.{by_column}
use Rattle.rounds.proofs.columns.all_joins.Given as goal

abbrev pub invariant-loop-q2 : goal.invariant-loop-q2
invariant-loop-q2 l = Rows (λ q₁ q₂. inner_code l.a.codes.now.words l.m.second.bytes.now (by_column l.table) q₂ q₁) (get_or l.m.first.bytes.now 0 0) l.q2 l.joins
