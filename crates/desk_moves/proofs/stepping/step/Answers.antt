-- `desk_moves::step` meets its contract: by the row that is worked on a held desk.
use Rattle.desk_moves.specs.Stepped.{leaves, movable, into-first, into-second}
use Rattle.desk_moves.proofs.stepping.step.Goals as goal

pub moved_on-requires : goal.moved_on-requires
moved_on-requires c =
    let held = c.in-Ok.ensures.held in
    movable held _ _ c.in-Ok.ensures.unsettled held.lengths.second_long (rw c.row-differs.auto.out held.lengths.first_long)

pub returns-then-s : goal.returns-then-s
returns-then-s c =
    let m = leaves c.moved_on.ensures c.answered.ensures in
    into-first c.in-Ok.ensures.held _ _ _ _ c.in-Ok.ensures.unsettled c.if-s.true
    (rw (c.models-models.ensures.first, c.models-models.ensures.second) at c.row-differs.ensures) (m.standing, m.answer)

pub moved_on-requires-in-Ok : goal.moved_on-requires-in-Ok
moved_on-requires-in-Ok c =
    let held = c.in-Ok.ensures.held in
    movable held _ _ c.in-Ok.ensures.unsettled held.lengths.first_long (rw c.row-differs-in-Ok.auto.out held.lengths.second_long)

pub returns-else-s : goal.returns-else-s
returns-else-s c =
    let m = leaves c.moved_on-in-Ok.ensures c.answered-in-Ok.ensures in
    into-second c.in-Ok.ensures.held _ _ _ _ c.in-Ok.ensures.unsettled c.if-s.false
    (rw (c.models-models.ensures.first, c.models-models.ensures.second) at c.row-differs-in-Ok.ensures) (m.standing, m.answer)
