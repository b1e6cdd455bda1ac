-- `lattice::complements::row_antitone` meets its contract: by the test of a pair. Assumes nothing.
use Rattle.std.proofs.Common.{rules, refl}
use Rattle.lattice.proofs.Ranges.{all_by_range}
use Rattle.lattice.proofs.complements.row_antitone.Goals as goal

pub returns : goal.returns
returns c = all_by_range _ _ c.all.ensures.ran refl (λ x b q k. search rules)
