-- `entries::join_words` meets its contract: the join of the words before this one.
use Rattle.std.proofs.Common.{refl, sym, ap, get_or, arith, zero-add}
use Rattle.theory.specs.Loop.{folded_none, folded_more, folded_all}
use Rattle.entries.proofs.joins.join_words.Goals as goal

pub loop-y-init : goal.loop-y-init
loop-y-init c = folded_none

pub loop-y-preserved : goal.loop-y-preserved
loop-y-preserved c = folded_more c.loop-y.invariant (ap (λ i. get_or c.args.row.now i 0) (sym (zero-add c.loop-y.y-index))) refl

pub returns : goal.returns
returns c = folded_all c.loop-y.invariant (omega arith) (omega arith)
