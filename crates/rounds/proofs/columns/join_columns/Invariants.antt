use Rattle.std.proofs.Common.{bit_and, bit_or, length}
use Rattle.model.specs.Reading.{leaving_code}
use Rattle.std.specs.Prelude.{false}
use Rattle.entries.specs.Words.{RowFolded}
use Rattle.rounds.specs.Codes.{by_column}
use Rattle.rounds.proofs.columns.join_columns.Given as goal

abbrev pub invariant-loop-r : goal.invariant-loop-r
invariant-loop-r l = RowFolded bit_or (λ q. 0) (λ q i. bit_and (leaving_code false l.a.codes.now.words l.m2.bytes.now l.q2.0 i) (by_column l.table q i)) l.r (length l.initial.row) l.row
