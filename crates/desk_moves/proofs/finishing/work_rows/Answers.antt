-- `desk_moves::work_rows` meets its contract: the rows from q on are left to do.
use Rattle.std.proofs.Common.{arith}
use Rattle.rounds.specs.Rest.{rest_none, rest_more, rest_done}
use Rattle.desk_moves.proofs.finishing.work_rows.Goals as goal

pub loop-q-init : goal.loop-q-init
loop-q-init c = rest_none

pub loop-q-preserved : goal.loop-q-preserved
loop-q-preserved c =
    rest_more c.loop-q.invariant (omega (arith, c.states-q-end.ensures, c.loop-q-test.true)) c.requires.0 c.row-changed.ensures.0 c.row-changed.ensures.1

pub shape_of-other : goal.shape_of-other
shape_of-other c = c.loop-q.invariant.same_length

pub returns : goal.returns
returns c = rw c.from-start.ensures at (rest_done c.loop-q.invariant (omega (arith, c.states-q-end.ensures, c.loop-q-test.false)))
