use Rattle.std.proofs.Common.{bit_and}
use Rattle.theory.specs.Loop.{Folded}
use Rattle.elements.specs.Words.{code_in}
use Rattle.rounds.specs.Codes.{score_part}
use Rattle.rounds.proofs.score.Given as goal

abbrev pub invariant-loop-q : goal.invariant-loop-q
invariant-loop-q l =
    let w = l.a.codes.now.words in
    Folded bit_and (code_in w l.a.lattice.top.0) (score_part w l.t.models.first.bytes.now l.t.models.second.bytes.now l.t.bytes.now) l.q l.x
