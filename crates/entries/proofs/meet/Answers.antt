-- `entries::meet` meets its contract: the meet over the states below q, and the pairs that it looked at.
use Rattle.std.proofs.Common.{◌+◌, ◌*◌, ◌-◌, drop, arith, length-take-le, length-drop}
use Rattle.entries.specs.Prepared.{met_none, met_more, met_stop, met_all, met_within, top_some, state_at}
use Rattle.entries.proofs.meet.Goals as goal

pub loop-q-init : goal.loop-q-init
loop-q-init c = let r = c.args.r.now in met_none c.args.x r.top c.args.left.now r.row.now c.args.table.now r.states

pub returns-then-y-eq0 : goal.returns-then-y-eq0
returns-then-y-eq0 c = let r = c.args.r.now in met_stop c.args.x r.top c.args.left.now r.row.now c.args.table.now r.states c.loop-q.invariant c.if-y-eq0.true (omega arith)

pub meet_state-m-requires : goal.meet_state-m-requires
meet_state-m-requires c =
    let a = c.args in
    let r = a.r.now in
    let q = c.loop-q.q in
    let u = c.loop-q.invariant in (
      met_within a.x r.top a.left.now r.row.now a.table.now r.states c.requires.0 u,
      top_some a.x r.top a.left.now r.row.now a.table.now r.states c.requires.0 u c.if-y-eq0.false,
      omega (arith, length-take-le (q * 64 + 64 - q * 64) (drop (q * 64) a.table.now) (omega (arith, length-drop (q * 64) a.table.now, c.requires.2)), c.requires.2),
    )

pub overflow_add-pairs : goal.overflow_add-pairs
overflow_add-pairs c = omega (arith, c.loop-q.invariant.pairs_most, c.meet_state-m.ensures.pairs_most, c.args.r.now.gap.le, c.requires.1)

pub loop-q-preserved : goal.loop-q-preserved
loop-q-preserved c =
    let a = c.args in
    let r = a.r.now in
    met_more a.x r.top a.left.now r.row.now a.table.now r.states c.loop-q.invariant c.if-y-eq0.false c.args.r.now.gap.le
    (state_at (c.loop-q.q * 64) _ c.args.r.now.gap.le (omega arith) c.meet_state-m.ensures)

pub returns : goal.returns
returns c =
    let a = c.args in
    let r = a.r.now in
    met_all a.x r.top a.left.now r.row.now a.table.now r.states c.loop-q.invariant (omega arith) (omega arith)
