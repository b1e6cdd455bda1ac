-- A row that is written into a table of bytes, and the tests on tables; then the terms of the contracts, which say the
-- same of the bytes of models and tables and of a lattice's codes. Rests on theory's Lattice, Model, Part, Simulation, Test and Lists, elements' Words,
-- and entries' Table.
--   Room: what the functions ask of a table to write into
--   row_written, entry_same, row_same, row_changed, changed_below, simulation_test: a row in its place, what it changes, S = G(S)
--   entry_at_most, row_at_most, post_fixed_test: S at or below G(S)
--   bytes_differing: in how many entries two tables differ
--   score_in: score
--   RowIn, post_fixed_in: what working a row does, the test on bytes
use Rattle.std.specs.Prelude.{ℕ, ◌*◌, ◌≤◌, ◌≡◌, Bool, not, List, eqb, length, get_or}
use Rattle.theory.specs.Lattice.{Ops}
use Rattle.theory.specs.Model.{Model}
use Rattle.theory.specs.Part.{model_of}
use Rattle.theory.specs.Simulation.{score, differing}
use Rattle.theory.specs.Test.{all_below}
use Rattle.theory.specs.Lists.{tab, written}
use Rattle.elements.specs.declared.Lattice.{Lattice}
use Rattle.elements.specs.Words.{ops_in}
use Rattle.entries.specs.Table.{table_of, FIn}

-- room for a table of their states
abbrev pub Room : List ℕ → List ℕ → List ℕ → Type 0
Room m₁ m₂ out = get_or m₁ 0 0 * get_or m₂ 0 0 ≤ length out

-- for any operator G on tables; F is the one that document 01 speaks of
module _ (M₁ M₂ : Model ℕ) (G : (ℕ → ℕ → ℕ) → ℕ → ℕ → ℕ) where
  -- the list with row q1 of G S in its place
  abbrev pub row_written : (ℕ → ℕ → ℕ) → ℕ → List ℕ → List ℕ
  row_written S q₁ out = written (q₁ * M₂.states) (tab (G S q₁) M₂.states 0) out

  -- S equals G S at (q1, q2); in row q1
  abbrev pub entry_same : (ℕ → ℕ → ℕ) → ℕ → ℕ → Bool
  entry_same S q₁ q₂ = eqb (S q₁ q₂) (G S q₁ q₂)

  unfoldable pub row_same : (ℕ → ℕ → ℕ) → ℕ → Bool
  row_same S q₁ = all_below M₂.states (entry_same S q₁)

  -- S differs from G S in row q1; in some row below q
  abbrev pub row_changed : (ℕ → ℕ → ℕ) → ℕ → Bool
  row_changed S q₁ = not (row_same S q₁)

  unfoldable pub changed_below : (ℕ → ℕ → ℕ) → ℕ → Bool
  changed_below S q = not (all_below q (row_same S))

  -- S = G(S), as a test; with F for G it is 'A table S is a simulation when S = F(S)'
  unfoldable pub simulation_test : (ℕ → ℕ → ℕ) → Bool
  simulation_test S = all_below M₁.states (row_same S)

module _ (O : Ops ℕ) (M₁ M₂ : Model ℕ) (G : (ℕ → ℕ → ℕ) → ℕ → ℕ → ℕ) where
  -- S is at or below G S at (q1, q2); in row q1
  abbrev pub entry_at_most : (ℕ → ℕ → ℕ) → ℕ → ℕ → Bool
  entry_at_most S q₁ q₂ = O.at_most (S q₁ q₂) (G S q₁ q₂)

  unfoldable pub row_at_most : (ℕ → ℕ → ℕ) → ℕ → Bool
  row_at_most S q₁ = all_below M₂.states (entry_at_most S q₁)

  -- S at or below G(S), as a test; with F for G it is request 104's 'S at or below F(S) everywhere'
  unfoldable pub post_fixed_test : (ℕ → ℕ → ℕ) → Bool
  post_fixed_test S = all_below M₁.states (row_at_most S)

-- in how many entries two tables of bytes with n₁ rows of n₂ entries differ (request 107)
abbrev pub bytes_differing : List ℕ → List ℕ → ℕ → ℕ → ℕ
bytes_differing a b n₁ n₂ = differing eqb n₁ n₂ (table_of a n₂) (table_of b n₂)

-- ---- the terms of the contracts, with the codes w and the numbers l of a lattice

module _ (w : List ℕ) (l : Lattice) (m₁ m₂ : List ℕ) where
  module _ (s : List ℕ) where
    -- the score of the table s
    abbrev pub score_in : ℕ
    score_in = score (ops_in w l) (model_of m₁) (model_of m₂) (table_of s (get_or m₂ 0 0))

    -- row q₁ of F of s is written into `before`, which gives `out`; `changed` says whether it differs from that of s
    abbrev pub RowIn : ℕ → List ℕ → List ℕ → Bool → Type 0
    RowIn q₁ before out changed =
        (out ≡ row_written (model_of m₁) (model_of m₂) (FIn w l m₁ m₂) (table_of s (get_or m₂ 0 0)) q₁ before)
        × (changed ≡ row_changed (model_of m₁) (model_of m₂) (FIn w l m₁ m₂) (table_of s (get_or m₂ 0 0)) q₁)

    -- s is at or below F of s
    abbrev pub post_fixed_in : Bool
    post_fixed_in = post_fixed_test (ops_in w l) (model_of m₁) (model_of m₂) (FIn w l m₁ m₂) (table_of s (get_or m₂ 0 0))
