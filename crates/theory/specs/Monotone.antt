-- Theorem 2, its first part: a value reads maps and environments only at the states and the variables in scope, and is monotone in them.
-- Rests on Value, Folds.
-- Here stand the definitions; the theorems are in proofs/Monotone.
--   SameEnv, AtMostEnv: environments that agree, or are in order; bind_mono: with one more variable
use Prim.Native.Nat.{ℕ, ◌<◌}
use Rattle.theory.specs.Lattice.{Ops, Laws}
use Rattle.theory.specs.Model.{Model}
use Rattle.theory.specs.Value.{SameMap, AtMostMap}

module _ {A : Type 0} (O : Ops A) (M : Model A) where
  -- two environments agree at the variables below d
  abbrev pub SameEnv : ℕ → (ℕ → ℕ → A) → (ℕ → ℕ → A) → Type 0
  SameEnv d e e' = (v : ℕ) → v < d → SameMap O M (e v) (e' v)

module _ {A : Type 0} {O : Ops A} (L : Laws O) (M : Model A) where
  abbrev pub AtMostEnv : (ℕ → ℕ → A) → (ℕ → ℕ → A) → Type 0
  AtMostEnv e d = (v : ℕ) → AtMostMap O M (e v) (d v)
