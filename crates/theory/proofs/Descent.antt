-- A descending sequence of finite tables over a lattice changes only so often: by the length of the longest chain.
-- The general part of theorem 4. Rests on Lattice, Simulation (lowerings), Test, Finite, Lowerings.
-- The definitions are in specs/Descent.
--   lowerings-le: a descending sequence of m by n tables lowers at most m * n * (h - 1) entries
--   first-unlowered: so there is a first step that lowers none
use Prim.Native.Nat.{ℕ, zero, suc, ◌+◌, ◌*◌, ◌≤◌, ◌<◌, zero-le}
use Rattle.std.specs.Prelude.{◌≡◌, Bool, not, ◌⊎◌, length}
use Rattle.std.proofs.Math.Path.{refl}
use Rattle.std.proofs.Math.Bool.{true, false}
use Rattle.std.proofs.Common.{inl, inr, le_refl, le_trans, mul_assoc}
use Rattle.std.proofs.Math.Logic.{⊎_swap, ⊎_map}
use mathlib.Core.List.{List, [], ◌∷◌, map}
use native.Mathlib.Omega.{arith}
use Rattle.std.proofs.lemmas.List.{length-map}
use Rattle.theory.specs.Lattice.{Ops, Laws, AtMost, Chain, All, Pairwise}
use Rattle.theory.specs.Simulation.{indicator, count, lowerings}
use Rattle.theory.specs.TestLaws.{decide, false_true}
use Rattle.theory.specs.Finite.{sum_le, scan, First, first_exists, pairwise_map, all_image, pairwise_under}
use Rattle.theory.specs.Lowerings.{lowered, lowerings-entries, lowerings-more, differing_some}
pub use Rattle.theory.specs.Finite.{all_map}
use Rattle.theory.specs.Descent.{steps, Preorder, Apart, Unlowered}

-- ---- a chain of h elements has h − 1 steps from one of them to the next

steps_le : {a h : ℕ} → suc a ≤ h → a ≤ steps h
steps_le p = omega arith

-- ---- values in a decided preorder; a sequence of values, of tables

module _ {A : Type 0} (W : Preorder A) where
  open W use {test, rfl, trans}

  -- the values that a descending sequence has had, each once, the last one first
  extend : Bool → A → List A → List A
  extend true b l = l
  extend false b l = b ∷ l

  had : (ℕ → A) → ℕ → List A
  unfolding extend
  had s zero = s 0 ∷ []
  had s (suc t) = extend (test (s t) (s (suc t))) (s (suc t)) (had s t)

  extend-length : (b : Bool) (a : A) (l : List A) (n : ℕ) → length l ≡ suc n → length (extend b a l) ≡ suc (n + indicator (not b))
  unfolding extend
  extend-length true a l n e = omega arith
  extend-length false a l n e = omega arith

  had-length : (s : ℕ → A) (t : ℕ) → length (had s t) ≡ suc (lowered test s t)
  unfolding had count
  had-length s zero = refl
  had-length s (suc t) = extend-length (test (s t) (s (suc t))) _ _ _ (had-length s t)

  extend_above : (a b : A) (v : Bool) → test a b ≡ v → (l : List A) → test b a ≡ true → All (λ c. test a c ≡ true) l → All (λ c. test b c ≡ true) (extend v b l)
  unfolding extend
  extend_above a b true e l p h = all_map _ _ (λ c. trans p) l h
  extend_above a b false e l p h = (rfl b, all_map _ _ (λ c. trans p) l h)

  extend-apart : (a b : A) (v : Bool) → test a b ≡ v → (l : List A) → test b a ≡ true → All (λ c. test a c ≡ true) l → Pairwise (Apart test) l → Pairwise (Apart test) (extend v b l)
  unfolding extend
  extend-apart a b true e l p h c = c
  extend-apart a b false e l p h c = (all_map _ _ (λ x g. (inl (trans p g), λ w. false_true e (trans g w.1))) l h, c)

  module _ (s : ℕ → A) (down : (t : ℕ) → test (s (suc t)) (s t) ≡ true) where
    had-above : (t : ℕ) → All (λ c. test (s t) c ≡ true) (had s t)
    unfolding had
    had-above zero = (rfl _, tt)
    had-above (suc t) = extend_above (s t) (s (suc t)) _ refl _ (down t) (had-above t)

    had-apart : (t : ℕ) → Pairwise (Apart test) (had s t)
    unfolding had
    had-apart zero = (tt, tt)
    had-apart (suc t) = extend-apart (s t) (s (suc t)) _ refl _ (down t) (had-above t) (had-apart t)

  -- a sequence of m by n tables, each entry descending, where no list of values apart has more than h
  module _ (h : ℕ) (height : (l : List A) → Pairwise (Apart test) l → length l ≤ h) (m n : ℕ) (s : ℕ → ℕ → ℕ → A) (down : (t q : ℕ) → q < m → (r : ℕ) → r < n → test (s (suc t) q r) (s t q r) ≡ true) where
    lowered-le : (t q : ℕ) → q < m → (r : ℕ) → r < n → lowered test (λ i. s i q r) t ≤ steps h
    lowered-le t q l r k = steps_le (rw had-length at (height (had (λ i. s i q r) t) (had-apart (λ i. s i q r) (λ i. down i q l r k) t)))

    -- all together, its tables lower at most m * n * (h - 1) entries
    pub lowerings-le : (t : ℕ) → lowerings test m n s t ≤ m * n * steps h
    lowerings-le t = rw (lowerings-entries test m n s t, mul_assoc) (sum_le m _ _ (λ q l. sum_le n _ _ (λ r k. lowered-le t q l r k)))

    lowerings-rise : (t q : ℕ) → q < m → (r : ℕ) → r < n → ¬ (test (s t q r) (s (suc t) q r) ≡ true) → lowerings test m n s t < lowerings test m n s (suc t)
    lowerings-rise t q l r k w = rw (lowerings-more test m n s t) (omega (arith, differing_some test m n (s t) (s (suc t)) q l r k w))

    -- step t lowers nothing, or it adds to the lowerings
    unlowered? : (t : ℕ) → Unlowered test m n s t ⊎ ((¬ Unlowered test m n s t) × (lowerings test m n s t < lowerings test m n s (suc t)))
    unlowered? t = go (scan m (λ q. (r : ℕ) → r < n → test (s t q r) (s (suc t) q r) ≡ true) _ (λ q l. scan n _ (λ r. ¬ (test (s t q r) (s (suc t) q r) ≡ true)) (λ r k. decide _)))
      where
        go : Unlowered test m n s t ⊎ ((q : ℕ) × (q < m) × ((r : ℕ) × (r < n) × (¬ (test (s t q r) (s (suc t) q r) ≡ true)))) → Unlowered test m n s t ⊎ ((¬ Unlowered test m n s t) × (lowerings test m n s t < lowerings test m n s (suc t)))
        go (inl a) = inl a
        go (inr (q, l, (r, k, w))) = inr (λ a. w (a q l r k), lowerings-rise t q l r k w)

    grows : (t : ℕ) → ((j : ℕ) → j < t → ¬ Unlowered test m n s j) → t ≤ lowerings test m n s t
    grows zero w = zero-le
    grows (suc t) w = go (unlowered? t) (grows t (λ j l. w j (omega arith)))
      where
        go : Unlowered test m n s t ⊎ ((¬ Unlowered test m n s t) × (lowerings test m n s t < lowerings test m n s (suc t))) → t ≤ lowerings test m n s t → suc t ≤ lowerings test m n s (suc t)
        go (inl a) e = absurd (w t (le_refl _) a)
        go (inr v) e = omega arith

    -- so there is a first step that lowers nothing, and its number is at most m * n * (h - 1)
    pub first-unlowered : (t : ℕ) × (t ≤ m * n * steps h) × First (Unlowered test m n s) t
    first-unlowered = first_exists (Unlowered test m n s) _ (λ t. ⊎_map (λ a. a) (λ w. w.0) (unlowered? t)) (λ t w. le_trans (grows t w) (lowerings-le t))

-- ---- in a lattice, downwards and upwards

module _ {A : Type 0} {O : Ops A} (L : Laws O) where
  -- a list of values apart is as long as a chain of elements: a met with itself is the element that a stands for
  module _ (h : ℕ) (height : (l : List A) → Chain O l → length l ≤ h) where
    pub apart-most : (l : List A) → Pairwise (Apart O.at_most) l → length l ≤ h
    apart-most l c =
        rw length-map at
        (height (map it l)
        (record {
          elements = all_image it _ (λ a. L.meet-element a a) l;
          distinct = pairwise_under it _ _ (λ a b v e. v.1 (rise (rw (← e) (L.rfl _)), rise (rw e (L.rfl _)))) l c;
          ordered = pairwise_under it _ _ (λ a b v. ⊎_map lift lift v.0) l c;
        }))
      where
        it : A → A
        it a = O.meet a a

        rise : {a b : A} → AtMost O (it a) (it b) → AtMost O a b
        rise p = L.trans (L.meet_glb (L.rfl _) (L.rfl _)) (L.trans p (L.meet_l _ _))

        lift : {a b : A} → AtMost O a b → AtMost O (it a) (it b)
        lift p = L.meet_glb (L.trans (L.meet_l _ _) p) (L.trans (L.meet_l _ _) p)

    pub apart-most-up : (l : List A) → Pairwise (Apart (λ a b. O.at_most b a)) l → length l ≤ h
    apart-most-up l c = apart-most l (pairwise_map _ _ (λ a b w. (⊎_swap w.0, λ v. w.1 (v.1, v.0))) l c)
