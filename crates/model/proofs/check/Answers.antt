-- `model::check` meets its contract: each test that fails breaks the shape or the values.
use Rattle.std.proofs.Common.{ℕ, ◌≡◌, ◌≤◌, ◌-◌, List, sym, ◌∙◌, arith, le_refl, length, ltb}
use Rattle.std.specs.List.{list_all, slice_range}
use Rattle.theory.specs.TestLaws.{false_true}
use Rattle.theory.proofs.Parts.{range_all}
use Rattle.model.specs.Reading.{elements_only}
use Rattle.model.proofs.Accepted.{answers_accepted, answers_refused}
use Rattle.model.proofs.check.Goals as goal
use Rattle.model.proofs.check.Goals.{then-states-eq0-via-then-states-eq0, then-states-eq0-via-else-states-eq0+then-states-gt64, then-states-eq0-via-else-states-eq0+else-states-gt64+then-propositions-gt16, then-part-w-via-then-part-w, then-part-w-via-else-part-w+then-not-below}

-- the test of the bytes after the sizes is that of 'every value is an element'
every_value : (n : ℕ) (b : List ℕ) → 2 ≤ length b → list_all (λ x. ltb x n) (slice_range b 2 (length b)) ≡ elements_only n b
unfolding elements_only
every_value n b l = range_all (λ x. ltb x n) b 2 (length b) (length b - 2) (omega arith) (le_refl _)

pub returns-then-part-lt2 : goal.returns-then-part-lt2
returns-then-part-lt2 c = answers_refused _ _ (λ s v. omega (arith, s.exact, s.some, s.states_most, s.propositions_most))

pub returns-then-states-eq0 : goal.returns-then-states-eq0
returns-then-states-eq0 c =
    answers_refused _ _
    (λ s v.
    elim c.then-states-eq0.branch [
      | then-states-eq0-via-then-states-eq0 w ↦ omega (arith, w.if-states-eq0.true, s.some)
      | then-states-eq0-via-else-states-eq0+then-states-gt64 w ↦ omega (arith, w.if-states-gt64.true, s.states_most)
      | then-states-eq0-via-else-states-eq0+else-states-gt64+then-propositions-gt16 w ↦ omega (arith, w.if-propositions-gt16.true, s.propositions_most)
    ])

pub returns-then-part-w : goal.returns-then-part-w
returns-then-part-w c =
    answers_refused _ _
    (λ s v.
    elim c.then-part-w.branch [
      | then-part-w-via-then-part-w w ↦ w.if-part-w.true (cc s.exact)
      | then-part-w-via-else-part-w+then-not-below w ↦ false_true (sym (w.below.ensures ∙ every_value _ _ (omega arith)) ∙ w.if-not-below.true) v
    ])

pub returns : goal.returns
returns c = answers_accepted _ _ (record { some = omega arith; states_most = omega arith; propositions_most = omega arith; exact = cc }) (sym (c.below.ensures ∙ every_value _ _ (omega arith)) ∙ c.if-not-below.false)
