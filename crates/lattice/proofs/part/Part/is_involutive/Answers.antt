-- `lattice::part::Part::is_involutive` meets its contract: by the test of an element. Assumes nothing.
use Rattle.std.proofs.Common.{ℕ, rules, refl, ap, ◌∙◌}
use Rattle.theory.specs.Test.{all_below}
use Rattle.lattice.specs.Filling.{involutive}
use Rattle.lattice.specs.Reading.{lattice_of}
use Rattle.lattice.proofs.Ranges.{all_by_range}
use Rattle.lattice.proofs.part.Part.is_involutive.Goals as goal

pub returns : goal.returns
returns c =
    all_by_range c.size.result (involutive (lattice_of c.args.self.bytes.now)) c.all.ensures.ran refl (λ x b q k. search rules)
    ∙ ap (λ (n : ℕ). all_below n (involutive (lattice_of c.args.self.bytes.now))) c.size.ensures.is
