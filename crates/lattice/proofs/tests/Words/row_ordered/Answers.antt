-- `lattice::tests::Words::row_ordered` meets its contract: by the test of a pair. Assumes nothing.
use Rattle.std.proofs.Common.{rules, refl}
use Rattle.lattice_codes.specs.Tests.{pair_ordered}
use Rattle.lattice.proofs.Ranges.{all_by_range}
use Rattle.lattice.proofs.tests.Words.row_ordered.Goals as goal

pub returns : goal.returns
unfolding pair_ordered
returns c = all_by_range _ _ c.all.ensures.ran refl (λ x b q k. search rules)
