-- `lattice::tests::Words::is_ordered` meets its contract: row by row. Assumes nothing.
use Rattle.std.proofs.Common.{rules, refl}
use Rattle.lattice_codes.specs.Tests.{ordered}
use Rattle.lattice.proofs.Ranges.{all_by_range}
use Rattle.lattice.proofs.tests.Words.is_ordered.Goals as goal

pub returns : goal.returns
unfolding ordered
returns c = all_by_range _ _ c.all.ensures.ran refl (λ x b q k. search rules)
