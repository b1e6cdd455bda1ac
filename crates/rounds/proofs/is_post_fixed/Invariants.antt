use Rattle.theory.specs.Loop.{Passed}
use Rattle.elements.specs.Words.{code_in}
use Rattle.rounds.specs.RowCodes.{row_within}
use Rattle.rounds.proofs.is_post_fixed.Given as goal

abbrev pub invariant-loop-q : goal.invariant-loop-q
invariant-loop-q l = Passed (row_within l.a.codes.now.words (code_in l.a.codes.now.words l.a.lattice.top.0) l.t.models.first.bytes.now l.t.models.second.bytes.now l.t.bytes.now l.joins) l.q
