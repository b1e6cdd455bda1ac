-- Theorem 8: the definitions give the values of the worked examples, and example 2 meets the limit on T.
-- Rests on Examples, Test, Descent, Height, Monotone.
-- Here stand the definitions; the theorems are in proofs/ExamplesHold.
--   unchanged_test, settles_by_test: T by a test that is computed
use Rattle.std.specs.Prelude.{ℕ, ◌-◌, Bool, ◌&&◌, ltb, eqb}
use Rattle.theory.specs.Lattice.{Ops}
use Rattle.theory.specs.Model.{Model}
use Rattle.theory.specs.Simulation.{round}
use Rattle.theory.specs.Test.{all_below}

module _ (O : Ops ℕ) (M₁ M₂ : Model ℕ) where
  unfoldable pub unchanged_test : ℕ → Bool
  unchanged_test t = ltb 0 t && all_below M₁.states (λ q₁. all_below M₂.states (λ q₂. eqb (round O M₁ M₂ t q₁ q₂) (round O M₁ M₂ (t - 1) q₁ q₂)))
