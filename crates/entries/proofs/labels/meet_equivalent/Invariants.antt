use Rattle.std.proofs.Common.{bit_and, bit_or}
use Rattle.theory.specs.Part.{model_of}
use Rattle.elements.specs.Words.{code_in, negated_code_in}
use Rattle.entries.specs.Words.{Replaced}
use Rattle.entries.proofs.labels.meet_equivalent.Given as goal

abbrev pub invariant-loop-q : goal.invariant-loop-q
invariant-loop-q l =
    Replaced (λ q v. bit_and v (bit_and (bit_or l.x (code_in l.w.words ((model_of l.m2.bytes.now).label q l.p.0))) (bit_or (negated_code_in l.w.words ((model_of l.m2.bytes.now).label q l.p.0)) l.y))) l.q l.initial.out l.out
