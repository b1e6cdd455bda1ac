-- `listing::Text::put_entries` meets its contract: the entries passed so far are written.
use Rattle.std.proofs.Common.{length, arith}
use Rattle.listing.specs.Lines.{loop_start, loop_room, loop_turn}
use Rattle.listing.proofs.writing.Text.put_entries.Invariants.{entry}
use Rattle.listing.proofs.writing.Text.put_entries.Goals as goal

pub loop-q-init : goal.loop-q-init
loop-q-init c = loop_start c.args.self.now (length c.args.row.now) (entry c.args.row.now) c.requires

pub put_entry-requires : goal.put_entry-requires
put_entry-requires c = loop_room c.args.self.now (length c.args.row.now) (entry c.args.row.now) c.requires c.loop-q.q (omega arith) c.loop-q.invariant

pub loop-q-preserved : goal.loop-q-preserved
loop-q-preserved c = loop_turn c.loop-q.q (entry c.args.row.now) c.loop-q.invariant c.put_entry.ensures
