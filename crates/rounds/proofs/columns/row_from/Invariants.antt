use Rattle.std.proofs.Common.{bit_and, bit_or, get_or}
use Rattle.std.specs.Prelude.{true}
use Rattle.elements.specs.Words.{code_in}
use Rattle.model.specs.Reading.{leaving_code}
use Rattle.entries.specs.Words.{RowFolded}
use Rattle.entries.specs.Codes.{propositions_code}
use Rattle.rounds.specs.Codes.{by_row}
use Rattle.rounds.proofs.columns.row_from.Given as goal

abbrev pub invariant-loop-q : goal.invariant-loop-q
invariant-loop-q l = RowFolded bit_and (propositions_code l.a.codes.now.words (code_in l.a.codes.now.words l.a.lattice.top.0) l.m.first.bytes.now l.m.second.bytes.now l.q1.0) (λ q i. bit_or (leaving_code true l.a.codes.now.words l.m.first.bytes.now l.q1.0 i) (by_row l.joins i q)) l.q (get_or l.m.second.bytes.now 0 0) l.out
