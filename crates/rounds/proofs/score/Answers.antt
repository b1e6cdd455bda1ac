-- `rounds::score` meets its contract: the meet so far.
use Rattle.std.proofs.Common.{ℕ, refl, ap, ap₂, ◌∙◌, get_or, bit_or, arith, length-take-le}
use Rattle.std.proofs.Math.ListN.{replicate}
use Rattle.theory.specs.Loop.{folded_none, folded_more, folded_all}
use Rattle.elements.specs.Words.{negated_code_in, decode_in}
use Rattle.rounds.specs.Codes.{score_met, score_decoded}
use Rattle.rounds.proofs.score.Goals as goal

pub loop-q-init : goal.loop-q-init
loop-q-init c = rw c.code-x.ensures folded_none

pub loop-q-preserved : goal.loop-q-preserved
loop-q-preserved c =
    let w = c.args.a.now.codes.now.words in
    let t = c.args.t.now in
    let e = rw (c.row.ensures.1, c.row.ensures.0) at c.encode.ensures in
    let z = c.negated_code-z.ensures ∙ ap (negated_code_in w) c.initial.ensures in
    let m = t.models.second.shape.states_most in
    let k = length-take-le {A = ℕ} c.states-n2.result (replicate 64 0) (omega (arith, m, c.states-n2.ensures)) in
    folded_more c.loop-q.invariant
    (ap₂ bit_or z
    (score_met w t.models.second.bytes.now t.bytes.now c.loop-q.q _ _ c.states-n2.ensures c.initial_codes.ensures (omega (arith, m, c.states-n2.ensures)) (omega (arith, k)) e c.join_met-y.ensures))
    refl

pub returns : goal.returns
returns c =
    let a = c.args.a.now in
    let t = c.args.t.now in
    let x = folded_all {n = get_or t.models.first.bytes.now 0 0} c.loop-q.invariant (omega arith) (omega arith) in
    c.decode.ensures ∙ ap (decode_in a.codes.now.words) x ∙ score_decoded a.coded t.models.first.bytes.now t.models.second.bytes.now t.bytes.now
