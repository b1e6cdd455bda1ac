-- `listing::put_settled` meets its contract: both tables start at top, and the first comes to hold round T.
use Rattle.listing.specs.Settling.{tops_start, settled_text}
use Rattle.listing.proofs.settling.put_settled.Goals as goal

pub settle-r-requires : goal.settle-r-requires
settle-r-requires c = tops_start c.args.a.now c.args.models.now c.requires.laws

pub put_table-requires : goal.put_table-requires
put_table-requires c = let w = c.settle-r in rw (settled_text w.ensures w.result w.ensures.is_T) (c.requires.room w.result w.ensures.is_T)

pub returns : goal.returns
returns c T f = rw (settled_text c.settle-r.ensures T f) at c.put_table.ensures
