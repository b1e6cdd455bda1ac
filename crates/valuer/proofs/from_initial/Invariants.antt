use Rattle.std.proofs.Common.{get_or}
use Rattle.std.specs.Int.Bits.{bit_and, bit_or}
use Rattle.theory.specs.Loop.{Folded}
use Rattle.theory.specs.Part.{model_of}
use Rattle.elements.specs.Words.{negated_code_in}
use Rattle.valuer.proofs.from_initial.Given as goal

abbrev pub invariant-loop-q : goal.invariant-loop-q
invariant-loop-q l = Folded bit_and l.initial.y (λ s. bit_or (negated_code_in l.a.codes.now.words ((model_of l.m.bytes.now).initial s)) (get_or l.x s 0)) l.q l.y
