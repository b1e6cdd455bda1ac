-- `entries::join_met` meets its contract: the join of the words before word i.
use Rattle.std.proofs.Common.{refl, arith}
use Rattle.theory.specs.Loop.{folded_none, folded_more, folded_all}
use Rattle.entries.proofs.joins.join_met.Goals as goal

pub loop-i-init : goal.loop-i-init
loop-i-init c = folded_none

pub loop-i-preserved : goal.loop-i-preserved
loop-i-preserved c = folded_more c.loop-i.invariant refl refl

pub returns : goal.returns
returns c = folded_all c.loop-i.invariant (omega arith) (omega arith)
