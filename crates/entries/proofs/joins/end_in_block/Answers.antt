-- `entries::end_in_block` meets its contract: the join before word i + j, which is not top.
use Rattle.std.proofs.Common.{◌≡◌, ◌+◌, sym, ap, ◌∙◌, add-zero, arith}
use Rattle.theory.specs.Loop.{reached}
use Rattle.entries.specs.Joins.{join_code, join_more, first_top}
use Rattle.entries.proofs.joins.end_in_block.Goals as goal

pub loop-j-init : goal.loop-j-init
loop-j-init c = (c.requires.2 ∙ ap (join_code c.args.r.now.row.now c.args.codes.now 0) (sym (add-zero c.args.i)), c.requires.3)

pub returns-then-y-r : goal.returns-then-y-r
returns-then-y-r c =
    let r = c.args.r.now in
    let s = c.args.codes.now in
    let u = c.loop-j in
    first_top r.top r.row.now s 0 r.within (omega (arith, c.requires.0)) (λ t. u.invariant.1 (u.invariant.0 ∙ t))
    (sym (join_more r.row.now s (c.args.i + u.j) u.invariant.0) ∙ c.if-y-r.true)

pub loop-j-preserved : goal.loop-j-preserved
loop-j-preserved c =
    let r = c.args.r.now in
    let j = c.loop-j.j in
    let z : c.args.i + j + 1 ≡ c.args.i + (j + 1) = omega arith in
    (join_more r.row.now c.args.codes.now (c.args.i + j) c.loop-j.invariant.0 ∙ ap (join_code r.row.now c.args.codes.now 0) z, c.if-y-r.false)

pub returns : goal.returns
returns c =
    let i = c.loop-j.invariant in
    absurd (i.1 (i.0 ∙ reached (λ j. join_code c.args.r.now.row.now c.args.codes.now 0 (c.args.i + j)) (omega arith) (omega arith) ∙ c.requires.4))
