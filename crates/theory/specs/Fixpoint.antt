-- Theorem 2: a fixpoint's value is the least (greatest) map that its body sends to itself; the number of applications of a body does not
-- matter from states * (n - 1) on; so values are those of the latticed mu-calculus. Rests on Value, Calculus, Monotone, Iterates, Descent.
-- Here stand the definitions; the theorems are in proofs/Fixpoint.
use Prim.Native.Nat.{ℕ}
use Rattle.theory.specs.Lattice.{Ops, Laws}
use Rattle.theory.specs.Model.{Model}
use Rattle.theory.specs.Formula.{Formula}
use Rattle.theory.specs.Value.{bind, eval}

module _ {A : Type 0} {O : Ops A} (L : Laws O) (M : Model A) where
  -- the body of a fixpoint, as a map on maps from states to values
  abbrev pub body : ℕ → Formula → (ℕ → ℕ → A) → (ℕ → A) → ℕ → A
  body K f e m = eval O M K f (bind m e)
