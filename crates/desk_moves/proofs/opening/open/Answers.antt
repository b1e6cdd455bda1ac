-- `desk_moves::open` meets its contract: too short, the case refused, or the desk made anew.
use Rattle.std.proofs.Common.{◌≡◌, sym, false, arith, length-take-le}
use Rattle.casefile.proofs.Caller.{when_accepted, when_refused}
use Rattle.desk.specs.Refused.{short}
use Rattle.desk.proofs.RulesLaws.{long-enough}
use Rattle.desk_check.specs.Read.{desk_of}
use Rattle.desk_moves.specs.Opened.{short_open, refused_open, accepted_open, room, filled}
use Rattle.desk_moves.proofs.opening.open.Goals as goal
use Rattle.desk_moves.proofs.opening.open.Goals.{Else-too_short}

-- the desk is long enough
not_short : (c : Else-too_short) → short (let a = c.args in desk_of a.s a.store.now a.first.now a.second.now) ≡ false
unfolding short
not_short c = sym c.if-too_short.ensures

pub returns-then-too_short : goal.returns-then-too_short
unfolding short
returns-then-too_short c = short_open _ _ (sym c.if-too_short.ensures)

pub invariant_of-taken : goal.invariant_of-taken
invariant_of-taken c = record { placed = (when_accepted _ _ _ _ c.check.ensures c.in-Ok.is).placed }

pub write-requires : goal.write-requires
write-requires c =
    let lengths = long-enough _ (not_short (goal.at.write-requires c).Else-too_short) in
    let a = when_accepted _ _ _ _ c.check.ensures c.in-Ok.is in
    omega (arith, a.short, lengths.store_long)

pub slice_bounds-fill-end : goal.slice_bounds-fill-end
slice_bounds-fill-end c = (room _ (not_short (goal.at.slice_bounds-fill-end c).Else-too_short) (when_accepted _ _ _ _ c.check.ensures c.in-Ok.is) c.table_size-n.ensures.0).0

pub slice_bounds-fill-end-in-Ok : goal.slice_bounds-fill-end-in-Ok
slice_bounds-fill-end-in-Ok c = sym (length-take-le _ c.args.first.now (room _ (not_short (goal.at.slice_bounds-fill-end-in-Ok c).Else-too_short) (when_accepted _ _ _ _ c.check.ensures c.in-Ok.is) c.table_size-n.ensures.0).0)

pub slice_bounds-fill-end-in-Ok-2 : goal.slice_bounds-fill-end-in-Ok-2
slice_bounds-fill-end-in-Ok-2 c = omega (arith, (room _ (not_short (goal.at.slice_bounds-fill-end-in-Ok-2 c).Else-too_short) (when_accepted _ _ _ _ c.check.ensures c.in-Ok.is) c.table_size-n.ensures.0).1)

pub slice_bounds-fill-end-in-Ok-3 : goal.slice_bounds-fill-end-in-Ok-3
slice_bounds-fill-end-in-Ok-3 c =
    sym (length-take-le _ c.args.second.now (omega (arith, (room _ (not_short (goal.at.slice_bounds-fill-end-in-Ok-3 c).Else-too_short) (when_accepted _ _ _ _ c.check.ensures c.in-Ok.is) c.table_size-n.ensures.0).1)))

pub returns-in-Err : goal.returns-in-Err
returns-in-Err c =
    refused_open _ _ _ (not_short (goal.at.returns-in-Err c).Else-too_short) (when_refused _ _ _ _ c.check.ensures c.in-Err.is)

pub returns-in-Ok : goal.returns-in-Ok
returns-in-Ok c =
    let s = not_short (goal.at.returns-in-Ok c).Else-too_short in
    let a = when_accepted _ _ _ _ c.check.ensures c.in-Ok.is in
    let n = c.table_size-n.ensures.0 in
    let r = room _ s a n in
    let d = c.default.ensures.1.1 in
    rw (d.0, d.1.0, d.1.1.0, d.1.1.1.0, d.1.1.1.1.0)
    (accepted_open _ _ _ _ s a c.table_size-n.result _ _ _ n c.write.ensures
    (filled _ _ _ _ r.0 (c.fill.ensures.after (λ y e. e)))
    (filled _ _ _ _ r.1 (c.fill-in-Ok.ensures.after (λ y e. e))))
