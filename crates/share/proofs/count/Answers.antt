-- `share::count` meets its contract: the count so far.
use Rattle.std.proofs.Common.{arith, ◌∙◌}
use Rattle.theory.specs.Loop.{counted_none, counted_more, counted_all}
use Rattle.share.specs.ShareIn.{byte_indicator}
use Rattle.share.proofs.count.Goals as goal

pub loop-x-init : goal.loop-x-init
loop-x-init c = counted_none

pub loop-x-preserved : goal.loop-x-preserved
loop-x-preserved c = counted_more c.loop-x.invariant c.at_most.ensures (c.from-c.ensures ∙ byte_indicator _)

pub returns : goal.returns
returns c = counted_all c.loop-x.invariant (omega arith) (omega arith)
