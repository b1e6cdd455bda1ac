-- `valuer::from_initial` meets its contract: the meet so far.
use Rattle.std.proofs.Common.{ℕ, refl, ap, ◌∙◌, arith, get_or}
use Rattle.std.specs.Int.Bits.{bit_or}
use Rattle.theory.specs.Loop.{folded_none, folded_more, folded_all}
use Rattle.elements.specs.Words.{negated_code_in}
use Rattle.valuer.proofs.from_initial.Goals as goal

pub loop-q-init : goal.loop-q-init
loop-q-init c = folded_none

pub loop-q-preserved : goal.loop-q-preserved
loop-q-preserved c =
    let a = c.args in
    let i = c.loop-q in
    folded_more i.invariant (c.all_step-y.ensures ∙ ap (λ (e : ℕ). bit_or (negated_code_in a.a.now.codes.now.words e) (get_or a.x.now i.q 0)) c.initial.ensures) refl

pub returns : goal.returns
returns c =
    let n = get_or c.args.m.now.bytes.now 0 0 in
    rw c.code-y.ensures at (folded_all {n = n} c.loop-q.invariant (omega (arith, c.states-q-end.ensures)) (omega (arith, c.states-q-end.ensures)))
