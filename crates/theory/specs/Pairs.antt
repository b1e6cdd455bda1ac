-- Request 103: how many pairs (q1', q2') working one entry of F looks at. Rests on Lattice, Model, Value and Simulation. What is proved of it
-- stands in PairLaws.
--   count_pairs: how many pairs pass a test; is_bottom, is_top: an element is bottom, or top, as tests
--   meet_before, join_before, looked_at, pairs: the count
use Rattle.std.specs.Prelude.{ℕ, zero, suc, ◌+◌, Bool, not, ◌&&◌}
use Rattle.theory.specs.Lattice.{Ops, imp, big_meet, big_join}
use Rattle.theory.specs.Model.{Model}
use Rattle.theory.specs.Value.{some_next}
use Rattle.theory.specs.Simulation.{proposition_part, count}

-- how many of the pairs (i, j) with i below m and j below n pass the test f
unfoldable pub count_pairs : ℕ → ℕ → (ℕ → ℕ → Bool) → ℕ
count_pairs zero n f = 0
count_pairs (suc m) n f = count_pairs m n f + count n (f m)

module _ {A : Type 0} (O : Ops A) where
  -- a is bottom: at or below it, as bottom alone is (`bottom_exactly`, PairLaws)
  abbrev pub is_bottom : A → Bool
  is_bottom a = O.at_most a O.bot

  -- a is top: at or above it
  abbrev pub is_top : A → Bool
  is_top a = O.at_most O.top a

  -- 'for that q1', the join over smaller q2''
  unfoldable pub join_before : Model A → (ℕ → ℕ → A) → ℕ → ℕ → ℕ → A
  join_before M₂ S q₂ q₁' q₂' = big_join O q₂' (λ j. O.meet (M₂.transition q₂ j) (S q₁' j))

  module _ (M₁ M₂ : Model A) (S : ℕ → ℕ → A) (q₁ q₂ : ℕ) where
    -- 'the meet over the propositions and all smaller q1''
    unfoldable pub meet_before : ℕ → A
    meet_before q₁' = O.meet (proposition_part O M₁ M₂ q₁ q₂) (big_meet O q₁' (λ i. imp O (M₁.transition q₁ i) (some_next O M₂ (S i) q₂)))

    -- 'the meet over the propositions and all smaller q1' isn't bottom and, for that q1', the join over smaller q2' isn't top'
    unfoldable pub looked_at : ℕ → ℕ → Bool
    looked_at q₁' q₂' = not (is_bottom (meet_before q₁')) && not (is_top (join_before M₂ S q₂ q₁' q₂'))

    -- 'how many pairs (q1', q2') it looked at: exactly those'
    unfoldable pub pairs : ℕ
    pairs = count_pairs M₁.states M₂.states looked_at
