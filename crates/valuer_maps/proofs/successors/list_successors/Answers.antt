-- `valuer_maps::list_successors` meets its contract: the rows below q are written.
use Rattle.std.proofs.Common.{◌≤◌, ◌+◌, ◌*◌, length, take, arith, get_or, ◌∙◌}
use Rattle.std.proofs.lemmas.List.{get_or-take, get_or_append_left, length-take-le}
use borrow.Rule.Slice.PartMut.{mid_len}
use Rattle.valuer_maps.specs.Successors.{rows-listed_none, rows-listed_more, rows-listed_all, row_put}
use Rattle.valuer_maps.proofs.successors.list_successors.Goals as goal

pub loop-q-init : goal.loop-q-init
loop-q-init c = rows-listed_none

pub loop-q-preserved : goal.loop-q-preserved
loop-q-preserved c =
    let n = c.args.m.now.shape.states_most in
    let fits : c.loop-q.q * 65 ≤ length c.loop-q.out = omega (arith, c.states-q-end.ensures) in
    rows-listed_more c.loop-q.invariant n
    (λ i b. get_or_append_left (take (c.loop-q.q * 65) c.loop-q.out) _ 0 i (omega (arith, length-take-le (c.loop-q.q * 65) c.loop-q.out fits)) ∙ get_or-take (c.loop-q.q * 65) c.loop-q.out i 0 b)
    (row_put c.loop-q.out _ (c.loop-q.q * 65) c.list_row.ensures n (omega (arith, c.list_row.auto.row, mid_len (c.loop-q.q * 65) (c.loop-q.q * 65 + 65) c.loop-q.out (omega (arith, c.states-q-end.ensures)))) fits)

pub returns : goal.returns
returns c =
    let e = c.states-q-end.ensures in
    rw c.code-top.ensures at (rows-listed_all {n = get_or c.args.m.now.bytes.now 0 0} c.loop-q.invariant (omega arith) (omega arith))
