-- A descending sequence of finite tables over a lattice changes only so often: by the length of the longest chain.
-- The general part of theorem 4. Rests on Lattice, Simulation (lowerings), Test, Finite, Lowerings.
-- Here stand the definitions; the theorems are in proofs/Descent.
--   steps: from one element of a chain of h to the next there are h - 1 steps
--   Preorder: a decided preorder; downwards, upwards: those of a lattice
--   Apart: in order, and not both ways; apart-most, apart-most-up: no list of values apart is longer than a chain
--   Unlowered: a step that lowers no entry
use Prim.Native.Nat.{ℕ, suc, ◌-◌}
use Rattle.std.specs.Prelude.{◌≡◌, Bool, ◌⊎◌}
use Rattle.std.proofs.Math.Bool.{true}
use Rattle.theory.specs.Lattice.{Ops, Laws}
use Rattle.theory.specs.Lowerings.{Passes}

abbrev pub steps : ℕ → ℕ
steps h = h - 1

pub record Preorder (A : Type 0) : Type 0 where
  pub test : A → A → Bool
  pub rfl : (a : A) → test a a ≡ true
  pub trans : {a b c : A} → test a b ≡ true → test b c ≡ true → test a c ≡ true

-- in order, and not both ways
abbrev pub Apart : {A : Type 0} → (A → A → Bool) → A → A → Type 0
Apart test a b = ((test a b ≡ true) ⊎ (test b a ≡ true)) × (¬ ((test a b ≡ true) × (test b a ≡ true)))

-- step t of a sequence of m by n tables lowers no entry
abbrev pub Unlowered : {A : Type 0} (test : A → A → Bool) (m n : ℕ) (s : ℕ → ℕ → ℕ → A) → ℕ → Type 0
Unlowered test m n s t = Passes test m n (s t) (s (suc t))

module _ {A : Type 0} {O : Ops A} (L : Laws O) where
  abbrev pub downwards : Preorder A
  downwards = record { test = O.at_most; rfl = L.rfl; trans = λ {a} {b} {c} p q. L.trans p q }

  abbrev pub upwards : Preorder A
  upwards = record { test = λ a b. O.at_most b a; rfl = L.rfl; trans = λ {a} {b} {c} p q. L.trans q p }
