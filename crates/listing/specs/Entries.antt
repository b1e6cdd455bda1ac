-- The text of a table depends on its entries at the pairs of states alone. Rests on Text and Writing.
use Rattle.std.specs.Prelude.{ℕ, ◌≡◌}
use Rattle.std.proofs.Math.Path.{ap, ap₂}
use mathlib.Core.List.{List, ◌++◌}
use Rattle.theory.specs.Lattice.{Ops}
use Rattle.theory.specs.Model.{Model}
use Rattle.theory.specs.Simulation.{SameTable}
use Rattle.theory.proofs.Rounds.{score_cong}
use Rattle.listing.specs.Text.{blank, line_end, row_label, rounds_label, score_label, item, last_item, heading, row_text, rows_text, table_text}
use Rattle.listing.specs.Writing.{each_cong}

module _ (O : Ops ℕ) (M₁ M₂ : Model ℕ) (S U : ℕ → ℕ → ℕ) (same : SameTable O M₁ M₂ S U) where
  pub rows_cong : rows_text S M₁.states M₂.states ≡ rows_text U M₁.states M₂.states
  unfolding row_text
  rows_cong =
      each_cong M₁.states _ _ (λ q₁ l. ap (λ (x : List ℕ). heading row_label q₁ ++ x ++ line_end) (each_cong M₂.states _ _ (λ q₂ m. ap (item blank) (same q₁ l q₂ m))))

  pub table_cong : (T : ℕ) → table_text O M₁ M₂ T S ≡ table_text O M₁ M₂ T U
  unfolding table_text
  table_cong T = ap₂ (λ (x : List ℕ) (y : ℕ). last_item rounds_label T ++ x ++ last_item score_label y) rows_cong (score_cong O M₁ M₂ same)
