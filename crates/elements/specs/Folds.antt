-- Finite meets and joins by codes. Rests on theory's Lattice and Loop, Words, Coded, Laws.
-- Here stand the definitions; the theorems are in proofs/Folds.
--   CodeOf: a word is an element's code; decode_in_lem: the element found by it
use Prim.Native.Nat.{ℕ}
use Rattle.std.specs.Prelude.{◌≡◌, List}
use Rattle.elements.specs.Words.{code_in}

-- x is the code of e. A record, so that a goal shows w, x and e
pub record CodeOf (w : List ℕ) (x e : ℕ) : Type 0 where
  pub eq : x ≡ code_in w e
