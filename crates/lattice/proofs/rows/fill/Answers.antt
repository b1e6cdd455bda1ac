-- `lattice::rows::fill` meets its contract: the rows passed are in the words. Assumes nothing.
use Rattle.std.proofs.Common.{◌≡◌, arith, refl, length}
use Rattle.lattice.specs.Rows.{down_none, down_more, down_all, rowed_slice}
use Rattle.lattice.proofs.rows.fill.Goals as goal

pub loop-i-init : goal.loop-i-init
loop-i-init c = down_none (record { at = λ a l. c.fill.ensures.clones a 0 l refl })

pub loop-i-preserved : goal.loop-i-preserved
loop-i-preserved c = down_more c.requires.1 c.requires.0 c.loop-i-test.true c.loop-i.invariant (rowed_slice _ _ _ _ _ _ (let e : length c.loop-i.down ≡ length c.args.down.now = omega arith in rw e at c.add_row.ensures))

pub returns : goal.returns
returns c = down_all c.loop-i.invariant (omega arith) (omega arith)
