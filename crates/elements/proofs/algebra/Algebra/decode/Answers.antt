-- `elements::algebra::Algebra::decode` meets its contract: a guess with the code is the first number with it, or it is looked for.
use Rattle.std.proofs.Common.{◌≡◌, refl, rules, sym, ◌∙◌, get_or, Some, None}
use borrow.Author.Tests.{tests}
use Rattle.std.proofs.lemmas.Iterator.{first_from_find, YieldsList-from_range}
use Rattle.elements.proofs.Coded.{guess_is, first_some, first_none}
use Rattle.elements.proofs.algebra.Algebra.decode.Goals as goal

pub returns-then-code-x : goal.returns-then-code-x
returns-then-code-x c = guess_is c.args.self.now.coded _ _ c.if-guess-self.true (sym c.code.ensures ∙ c.if-code-x.true)

pub returns-in-Some : goal.returns-in-Some
returns-in-Some c =
    let w = c.args.self.now.codes.now.words in
    first_some _ _ _
    (first_from_find c.find.new.self _ (Some c.in-Some.a) (λ a. get_or w a 0 ≡ c.args.x) (λ a. get_or w a 0 ≡ c.args.x → ⊥) c.in-Some.ensures.ran (YieldsList-from_range 0 64 64 refl refl) (λ x q k. search (rules, tests)) (λ x q k. search (rules, tests)))

pub returns-in-None : goal.returns-in-None
returns-in-None c =
    let w = c.args.self.now.codes.now.words in
    first_none _ _
    (first_from_find c.find.new.self _ None (λ a. get_or w a 0 ≡ c.args.x) (λ a. get_or w a 0 ≡ c.args.x → ⊥) c.in-None.ensures.ran (YieldsList-from_range 0 64 64 refl refl) (λ x q k. search (rules, tests)) (λ x q k. search (rules, tests)))
