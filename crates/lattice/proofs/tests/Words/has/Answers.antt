-- `lattice::tests::Words::has` meets its contract: case by case. Assumes nothing.
use Rattle.std.proofs.Common.{sym, ◌∙◌}
use borrow.Author.Tests.{eqb-true}
use Rattle.lattice_codes.specs.Tests.{found_here}
use Rattle.lattice.proofs.tests.Words.has.Goals as goal
use Rattle.lattice.proofs.tests.Words.has.Goals.{then-z-self, else-z-self}

pub returns-then-z-self-2 : goal.returns-then-z-self-2
returns-then-z-self-2 c =
    elim c.if-z-self.branch [
      | then-z-self w ↦ c.if-z-self-2.true ∙ sym (found_here _ _ _ _ c.requires.0 (sym w.if-z-self.true)).word
      | else-z-self w ↦ c.if-z-self-2.true ∙ sym (found_here _ _ _ _ c.requires.1 (sym (eqb-true _ _ (sym w.value-is ∙ c.if-z-self-2.true)))).word
    ]
