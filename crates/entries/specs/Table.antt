-- Tables of elements held as bytes, and one entry of F: the terms of the contracts, which speak of the bytes of models and tables and of a
-- lattice's codes. Rests on theory's Part, Simulation and Pairs, and elements' Words.
--   table_of: entry (q1, q2) of a table of bytes
--   Shaped: what the functions ask of models and tables
--   FIn, entry_in, pairs_in, EntryIs: F, an entry of F, how many pairs working it looks at, and both
use Rattle.std.specs.Prelude.{ℕ, ◌+◌, ◌*◌, ◌≤◌, ◌≡◌, List, length, get_or}
use Rattle.theory.specs.Part.{model_of, ModelShape}
use Rattle.theory.specs.Simulation.{F}
use Rattle.theory.specs.Pairs.{pairs}
use Rattle.elements.specs.declared.Lattice.{Lattice}
use Rattle.elements.specs.Words.{ops_in}

-- 'Entry (q1, q2) is byte q1·N2 + q2', of a table with n for N2
abbrev pub table_of : List ℕ → ℕ → ℕ → ℕ → ℕ
table_of s n q₁ q₂ = get_or s (q₁ * n + q₂) 0

-- two model parts over the same propositions, and a table for their states
pub record Shaped (m₁ m₂ s : List ℕ) : Type 0 where
  pub first : ModelShape m₁
  pub second : ModelShape m₂
  pub same_propositions : get_or m₁ 1 0 ≡ get_or m₂ 1 0
  pub held : get_or m₁ 0 0 * get_or m₂ 0 0 ≤ length s

-- ---- with the codes w and the numbers l of a lattice

module _ (w : List ℕ) (l : Lattice) (m₁ m₂ : List ℕ) where
  -- F, for the models that the parts m₁ and m₂ hold
  abbrev pub FIn : (ℕ → ℕ → ℕ) → ℕ → ℕ → ℕ
  FIn = F (ops_in w l) (model_of m₁) (model_of m₂)

  module _ (s : List ℕ) where
    -- entry (q₁, q₂) of F of the table s, and how many pairs working it looks at
    abbrev pub entry_in : ℕ → ℕ → ℕ
    entry_in q₁ q₂ = FIn (table_of s (get_or m₂ 0 0)) q₁ q₂

    abbrev pub pairs_in : ℕ → ℕ → ℕ
    pairs_in q₁ q₂ = pairs (ops_in w l) (model_of m₁) (model_of m₂) (table_of s (get_or m₂ 0 0)) q₁ q₂

-- e is entry (q₁, q₂) of F of the table s, and working it looks at so many pairs. A record, so that a goal shows its arguments
pub record EntryIs (w : List ℕ) (l : Lattice) (m₁ m₂ s : List ℕ) (q₁ q₂ e pairs : ℕ) : Type 0 where
  pub value_is : e ≡ entry_in w l m₁ m₂ s q₁ q₂
  pub pairs_are : pairs ≡ pairs_in w l m₁ m₂ s q₁ q₂
