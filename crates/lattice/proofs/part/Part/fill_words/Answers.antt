-- `lattice::part::Part::fill_words` meets its contract: the words below the counter are filled. Assumes nothing.
use Rattle.std.proofs.Common.{refl, arith}
use Rattle.theory.specs.Loop.{filled_none, filled_more, filled_as}
use Rattle.lattice.proofs.part.Part.fill_words.Goals as goal

pub loop-k-init : goal.loop-k-init
loop-k-init c = filled_none

pub loop-k-preserved : goal.loop-k-preserved
loop-k-preserved c = filled_more c.loop-k.invariant (omega arith) c.word_at.ensures

pub returns : goal.returns
returns c = filled_as c.loop-k.invariant (omega arith) (λ i l. refl)
