-- `lattice::tests::Words::find` meets its contract: the guess is right, or the word is looked for. Assumes nothing.
use Rattle.std.proofs.Common.{rules, ◌≡◌}
use borrow.Author.Tests.{tests}
use Rattle.std.proofs.lemmas.Iterator.{IsFirst-from_position, YieldsList-from_slice}
use Rattle.lattice_codes.specs.Tests.{found_here}
use Rattle.lattice.proofs.Ranges.{found_by_position}
use Rattle.lattice.proofs.tests.Words.find.Goals as goal

pub returns-in-Some : goal.returns-in-Some
returns-in-Some c = found_here _ _ _ _ c.in-Some.ensures.0 c.in-Some.ensures.1

pub returns : goal.returns
returns c =
    found_by_position _ _ _
    (IsFirst-from_position _ _ _ (λ y. y ≡ c.args.x) (λ y. y ≡ c.args.x → ⊥) c.position.ensures.ran (YieldsList-from_slice c.args.self.words.now c.iter.ensures.rest) (λ x q k. search (rules, tests)) (λ x q k. search (rules, tests)))
