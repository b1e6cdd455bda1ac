-- `lattice::tests::Words::fill_codes` meets its contract: the codes below the counter are filled. Assumes nothing.
use Rattle.std.proofs.Common.{arith, refl}
use Rattle.theory.specs.Loop.{filled_none, filled_more, filled_as}
use Rattle.lattice.proofs.tests.Words.fill_codes.Goals as goal

pub loop-a-init : goal.loop-a-init
loop-a-init c = filled_none

pub loop-a-preserved : goal.loop-a-preserved
loop-a-preserved c = filled_more c.loop-a.invariant (omega arith) refl

pub returns : goal.returns
returns c = filled_as c.loop-a.invariant (omega arith) (λ i l. refl)
