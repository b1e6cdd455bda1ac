-- `casefile::Case::check_formulas` meets its contract: the first part that is no formula is found, or there is none.
use Rattle.std.proofs.Common.{rules, ℕ, Bool, ◌≡◌, ◌-◌, refl, Some, None, true, false}
use borrow.Author.Tests.{tests}
use Rattle.std.proofs.lemmas.Iterator.{first_from_find, YieldsList-from_range}
use Rattle.casefile.specs.Directory.{part_count, part_at}
use Rattle.casefile.specs.Steps.{is_read}
use Rattle.formula.specs.Bytes.{formula_reading}
use Rattle.casefile.proofs.Formulas.{find_none, find_some}
use Rattle.casefile.proofs.Case.check_formulas.Goals as goal

pub returns-in-Some : goal.returns-in-Some
returns-in-Some c =
    let b = c.args.self.bytes.now in
    let read : ℕ → Bool = λ x. is_read (formula_reading c.args.k (part_at b x)) in
    find_some _ _ _ _ (first_from_find c.find.new.self _ (Some c.in-Some.i) (λ x. read x ≡ false) (λ x. read x ≡ true) c.in-Some.ensures.ran (YieldsList-from_range 3 (part_count b) (part_count b - 3) refl refl) (λ x q k. search (rules, tests)) (λ x q k. search (rules, tests)))

pub returns-in-None : goal.returns-in-None
returns-in-None c =
    let b = c.args.self.bytes.now in
    let read : ℕ → Bool = λ x. is_read (formula_reading c.args.k (part_at b x)) in
    find_none _ _ _ (first_from_find c.find.new.self _ None (λ x. read x ≡ false) (λ x. read x ≡ true) c.in-None.ensures.ran (YieldsList-from_range 3 (part_count b) (part_count b - 3) refl refl) (λ x q k. search (rules, tests)) (λ x q k. search (rules, tests)))
