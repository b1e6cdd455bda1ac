-- `rounds::round` meets its contract: the rows below q are worked.
use Rattle.std.proofs.Common.{◌*◌, ◌+◌, ◌<◌, ◌≤◌, refl, length, get_or, arith}
use Rattle.model.specs.Places.{row_le}
use Rattle.entries.specs.Shaped.{shaped}
use Rattle.rounds.specs.Row.{row_at, row_placed}
use Rattle.rounds.specs.Round.{round_none, round_more}
use Rattle.rounds.specs.RowCodes.{row_in}
use Rattle.rounds.proofs.round.Goals as goal

pub loop-q-init : goal.loop-q-init
loop-q-init c = round_none

pub loop-q-preserved : goal.loop-q-preserved
loop-q-preserved c =
    let t = c.args.t.now in
    let q = c.loop-q.q in
    let n₁ = get_or t.models.first.bytes.now 0 0 in
    let n₂ = get_or t.models.second.bytes.now 0 0 in
    let l : q < n₁ = omega arith in
    let e = rw (c.states-n2.ensures, c.row.ensures.1, c.row.ensures.0) at c.write_codes-c.ensures in
    let fits : q * n₂ + n₂ ≤ length c.loop-q.other = omega (arith, row_le q n₁ n₂ l, c.requires) in
    let r = row_at t.models.first.bytes.now t.models.second.bytes.now t.bytes.now q n₂ q (shaped t) l refl refl in
    let v = row_in c.args.a.now.coded c.inner_joins.ensures q r refl c.row_from.ensures (row_placed (q * n₂) _ n₂ t.bytes.now c.loop-q.other (omega arith) fits e) in
    rw c.states-n2.ensures (round_more c.loop-q.invariant l c.requires v.0 v.1 refl)
