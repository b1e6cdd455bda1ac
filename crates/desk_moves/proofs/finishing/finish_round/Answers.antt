-- `desk_moves::finish_round` meets its contract: by the rows that are worked on a held desk.
use Rattle.desk_moves.specs.Stepped.{leaves, movable}
use Rattle.desk_moves.specs.Finished.{rest-into-first, rest-into-second}
use Rattle.desk_moves.proofs.finishing.finish_round.Goals as goal

pub round_done-requires : goal.round_done-requires
round_done-requires c =
    let held = c.in-Ok.ensures.held in
    movable held _ _ c.in-Ok.ensures.unsettled held.lengths.second_long (rw c.work_rest-differs.auto.other held.lengths.first_long)

pub returns-then-s : goal.returns-then-s
returns-then-s c =
    let m = leaves c.round_done.ensures c.answered.ensures in
    rest-into-first c.in-Ok.ensures.held _ _ _ _ c.in-Ok.ensures.unsettled c.if-s.true
    (rw (c.models-models.ensures.first, c.models-models.ensures.second) at c.work_rest-differs.ensures) (m.standing, m.answer)

pub round_done-requires-in-Ok : goal.round_done-requires-in-Ok
round_done-requires-in-Ok c =
    let held = c.in-Ok.ensures.held in
    movable held _ _ c.in-Ok.ensures.unsettled held.lengths.first_long (rw c.work_rest-differs-in-Ok.auto.other held.lengths.second_long)

pub returns-else-s : goal.returns-else-s
returns-else-s c =
    let m = leaves c.round_done-in-Ok.ensures c.answered-in-Ok.ensures in
    rest-into-second c.in-Ok.ensures.held _ _ _ _ c.in-Ok.ensures.unsettled c.if-s.false
    (rw (c.models-models.ensures.first, c.models-models.ensures.second) at c.work_rest-differs-in-Ok.ensures) (m.standing, m.answer)
