-- T is at most N1·N2 + 1, whatever the lattice's longest chain: which entries of round r + 1 a join-irreducible element is at or below depends
-- only on which entries of round r it is at or below, and each round has these among the ones before. For F, and for any operator like it.
-- Rests on Irreducible, Simulation, Descent, Height, Rounds; that the limit is attained, on Examples.
-- Here stand the definitions; the theorems are in proofs/Sharp.
--   Preserves, PreservesTable, OperatorPreserves: l at or below an entry of one table is at or below that of another, and an operator that preserves this
use Rattle.std.specs.Prelude.{ℕ}
use Rattle.theory.specs.Lattice.{Ops, AtMost}
use Rattle.theory.specs.Model.{Model}
use Rattle.theory.specs.Simulation.{AllPairs}
use Rattle.theory.specs.Irreducible.{JoinIrreducible}

-- if l is at or below a, it is at or below b
abbrev pub Preserves : {A : Type 0} → Ops A → A → A → A → Type 0
Preserves O l a b = AtMost O l a → AtMost O l b

module _ {A : Type 0} (O : Ops A) (M₁ M₂ : Model A) where
  -- the same at every pair of states
  abbrev pub PreservesTable : A → (ℕ → ℕ → A) → (ℕ → ℕ → A) → Type 0
  PreservesTable l S U = AllPairs O M₁ M₂ (λ q₁ q₂. Preserves O l (S q₁ q₂) (U q₁ q₂))

  -- the operator G keeps this, for each join-irreducible element
  abbrev pub OperatorPreserves : ((ℕ → ℕ → A) → ℕ → ℕ → A) → Type 0
  OperatorPreserves G = (l : A) → JoinIrreducible O l → (S U : ℕ → ℕ → A) → PreservesTable l S U → (q₁ q₂ : ℕ) → Preserves O l (G S q₁ q₂) (G U q₁ q₂)
