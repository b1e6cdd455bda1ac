-- `lattice::part::Part::is_antitone` meets its contract: row by row. Assumes nothing.
use Rattle.std.proofs.Common.{ℕ, rules, refl, ap, ◌∙◌}
use Rattle.theory.specs.Test.{all_below}
use Rattle.lattice.specs.Filling.{antitone, antitone_pair}
use Rattle.lattice.proofs.Ranges.{all_by_range}
use Rattle.lattice.proofs.part.Part.is_antitone.Goals as goal

pub returns : goal.returns
unfolding antitone
returns c =
    all_by_range c.from-n.result (λ a. all_below c.from-n.result (antitone_pair c.args.w.now.words a)) c.all.ensures.ran refl (λ x b q k. search rules)
    ∙ ap (λ (n : ℕ). antitone n c.args.w.now.words) (c.from-n.ensures ∙ c.size.ensures.is)
