-- The iterates of a monotone map on functions, from the greatest value on, in either direction of an order. Rests on Value, Descent.
-- The definitions are in specs/Iterates.
--   iterate-greatest: what g does not lower lies below every iterate
--   iterate-falls, iterate_fixed: an iterate is not raised, and enough iterates are not lowered
--   steps-down: each iterate lies at or below the one before
use Prim.Native.Nat.{ℕ, zero, suc, ◌*◌, ◌-◌, ◌≤◌, ◌<◌}
use Rattle.std.specs.Prelude.{◌≡◌, true}
use Rattle.std.proofs.Math.Nat.{mul-one}
use Rattle.std.proofs.Common.{le_refl, le_trans}
use Rattle.std.proofs.Math.Decide.{le_ind}
use Rattle.theory.specs.Value.{iterate}
use Rattle.theory.specs.Finite.{First}
use Rattle.theory.specs.Descent.{Preorder, Unlowered}
use Rattle.theory.specs.Iterates.{Under}

-- ---- monotone maps on functions, in either direction of the order

module _ {A : Type 0} (W : Preorder A) (N : ℕ) where
  module _ (c : A) (c-max : (a : A) → W.test a c ≡ true) (g : (ℕ → A) → ℕ → A) (mono : (x y : ℕ → A) → Under W N x y → Under W N (g x) (g y)) where
    descends : (t : ℕ) → Under W N (iterate (suc t) g (λ q. c)) (iterate t g (λ q. c))
    unfolding iterate
    descends zero q l = c-max _
    descends (suc t) q l = mono _ _ (descends t) q l

    -- what g does not lower lies below every iterate
    pub iterate-greatest : (y : ℕ → A) → Under W N y (g y) → (t : ℕ) → Under W N y (iterate t g (λ q. c))
    unfolding iterate
    iterate-greatest y w zero q l = c-max _
    iterate-greatest y w (suc t) q l = W.trans (w q l) (mono _ _ (iterate-greatest y w t) q l)

    -- an iterate is not raised
    pub iterate-falls : (t : ℕ) → Under W N (g (iterate t g (λ q. c))) (iterate t g (λ q. c))
    unfolding iterate
    iterate-falls t = descends t

    -- enough iterates are not lowered
    pub iterate_fixed : (h : ℕ) → ((t : ℕ) × (t ≤ N * 1 * (h - 1)) × First (Unlowered W.test N 1 (λ t q r. iterate t g (λ q. c) q)) t) → (K : ℕ) → N * (h - 1) ≤ K → Under W N (iterate K g (λ q. c)) (g (iterate K g (λ q. c)))
    unfolding iterate
    iterate_fixed h w K e =
        le_ind (λ t. (Under W N) (iterate t g (λ q. c)) (iterate (suc t) g (λ q. c)))
        (λ q l. w.2.here q l 0 (le_refl _)) (λ t m s. mono _ _ s) K
        (le_trans w.1 (rw mul-one e))

    pub steps-down : (t q : ℕ) → q < N → (r : ℕ) → r < 1 → W.test (iterate (suc t) g (λ q. c) q) (iterate t g (λ q. c) q) ≡ true
    steps-down t q l r k = descends t q l
