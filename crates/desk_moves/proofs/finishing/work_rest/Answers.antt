-- `desk_moves::work_rest` meets its contract: a whole round is the rows from 0 on.
use Rattle.std.proofs.Common.{◌≡◌, ◌-◌, get_or, arith}
use Rattle.rounds.specs.Rest.{round_rest}
use Rattle.desk_moves.proofs.finishing.work_rest.Goals as goal

pub returns-then-from-eq0 : goal.returns-then-from-eq0
returns-then-from-eq0 c =
    let n1 = get_or c.args.whole.now.models.first.bytes.now 0 0 in
    let n : n1 - 0 ≡ n1 = omega arith in
    rw (c.if-from-eq0.true, n) (round_rest c.round.ensures c.requires.0)
