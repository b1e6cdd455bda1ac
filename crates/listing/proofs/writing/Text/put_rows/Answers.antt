-- `listing::Text::put_rows` meets its contract: the rows passed so far are written.
use Rattle.std.proofs.Common.{get_or, arith}
use Rattle.listing.specs.Lines.{loop_start, loop_room, loop_turn, row_is}
use Rattle.listing.proofs.writing.Text.put_rows.Invariants.{line}
use Rattle.listing.proofs.writing.Text.put_rows.Goals as goal

pub loop-q1-init : goal.loop-q1-init
loop-q1-init c = let t = c.args.t.now in loop_start c.args.self.now (get_or t.models.first.bytes.now 0 0) (line t) c.requires

pub put_row-requires : goal.put_row-requires
put_row-requires c =
    let t = c.args.t.now in
    rw (← row_is t.bytes.now (get_or t.models.second.bytes.now 0 0) c.loop-q1.q1 _ c.row.ensures.0 c.row.ensures.1) at
    (loop_room c.args.self.now (get_or t.models.first.bytes.now 0 0) (line t) c.requires c.loop-q1.q1 (omega arith) c.loop-q1.invariant)

pub loop-q1-preserved : goal.loop-q1-preserved
loop-q1-preserved c =
    let t = c.args.t.now in
    loop_turn c.loop-q1.q1 (line t) c.loop-q1.invariant
    (rw (row_is t.bytes.now (get_or t.models.second.bytes.now 0 0) c.loop-q1.q1 _ c.row.ensures.0 c.row.ensures.1) at c.put_row.ensures)
