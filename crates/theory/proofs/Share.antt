-- Theorem 9: what a share in whole per cent is, without the quotient by which it is worked out, and what request 101 left as it was. Rests
-- on Simulation and Loop.
-- The definitions are in specs/Share.
--   per_cent_nearest_even, share_nearest_even, per_cent_most, share_most: per_cent and share are that, and at most 100
--   goes_up_is, per_cent_up, per_cent_down: goes_up and per_cent by one comparison
--   share_cong: share reads no more than the entries that it counts
use Rattle.std.specs.Prelude.{ℕ, zero, suc, ◌+◌, ◌*◌, ◌/◌, ◌%◌, ◌<◌, ◌≤◌, ◌≡◌, Bool, true, false, ◌&&◌, ◌||◌, ◌↔◌, ◌⊎◌, ltb, eqb}
use Rattle.std.proofs.Math.Path.{refl, sym, ap}
use Rattle.std.proofs.Common.{◌∙◌, inl, inr, add-zero, le_refl, suc-mul, add-mul, mul_comm, mul_assoc, mul_left_comm, mul-le-mul_right, mod-lt, arith}
use Rattle.std.proofs.Math.Nat.{div-add-mod, div-eq_of_lt-le}
use borrow.Author.Tests.{ltb-true, ltb-false, lt-ltb, le-ltb, eqb-true, eqb-false}
use Rattle.theory.specs.Lattice.{Ops}
use Rattle.theory.specs.Simulation.{indicator, count, goes_up, per_cent, share}
use Rattle.theory.specs.Loop.{count_most, count_cong}
use Rattle.theory.specs.Share.{distance, Nearest, NearestEven, halves_up}

-- ---- one comparison

-- goes_up asks whether twice the rest, and one more where q is odd, is more than t
pub goes_up_is : (t q rest : ℕ) → goes_up t q rest ≡ ltb t (2 * rest + q % 2)
goes_up_is t q rest = go (ltb t (2 * rest)) (eqb (2 * rest) t) (eqb (q % 2) 1) refl refl refl
  where
    more : t < 2 * rest + q % 2 → true ≡ ltb t (2 * rest + q % 2)
    more l = sym (lt-ltb _ _ l)

    less : 2 * rest + q % 2 ≤ t → false ≡ ltb t (2 * rest + q % 2)
    less l = sym (le-ltb _ _ l)

    go : (a b d : Bool) → ltb t (2 * rest) ≡ a → eqb (2 * rest) t ≡ b → eqb (q % 2) 1 ≡ d → a || b && d ≡ ltb t (2 * rest + q % 2)
    go true b d l _ _ = more (omega (arith, ltb-true t (2 * rest) l))
    go false true true _ h o = more (omega (arith, eqb-true (2 * rest) t h, eqb-true (q % 2) 1 o))
    go false true false _ h o = less (omega (arith, eqb-true (2 * rest) t h, eqb-false (q % 2) 1 o))
    go false false d l h _ = less (omega (arith, ltb-false t (2 * rest) l, eqb-false (2 * rest) t h))

-- where it is, per_cent is one more than the quotient, else the quotient
module _ (c t : ℕ) where
  pub per_cent_up : t < 2 * (100 * c % t) + 100 * c / t % 2 → 100 * c / t + 1 ≡ per_cent c t
  unfolding per_cent
  per_cent_up l = ap (λ (b : Bool). 100 * c / t + indicator b) (sym (goes_up_is t (100 * c / t) (100 * c % t) ∙ lt-ltb _ _ l))

  pub per_cent_down : 2 * (100 * c % t) + 100 * c / t % 2 ≤ t → 100 * c / t ≡ per_cent c t
  unfolding per_cent
  per_cent_down l = sym (add-zero _) ∙ ap (λ (b : Bool). 100 * c / t + indicator b) (sym (goes_up_is t (100 * c / t) (100 * c % t) ∙ le-ltb _ _ l))

-- ---- two whole numbers of per cent

-- p and x are the same, or one per cent apart at least
abbrev Apart : ℕ → ℕ → ℕ → Type 0
Apart t p x = (p ≡ x) ⊎ ((p * t + t ≤ x * t) ⊎ (x * t + t ≤ p * t))

apart : (t p x : ℕ) → Apart t p x
apart t p x = go (ltb p x) (ltb x p) refl refl
  where
    go : (a b : Bool) → ltb p x ≡ a → ltb x p ≡ b → Apart t p x
    go true b l _ = inr (inl (rw (← suc-mul p t) (mul-le-mul_right t (ltb-true p x l))))
    go false true _ l = inr (inr (rw (← suc-mul x t) (mul-le-mul_right t (ltb-true x p l))))
    go false false l m = inl (omega (arith, ltb-false p x l, ltb-false x p m))

module _ (c t : ℕ) where
  -- what is within a half is nearest
  half_nearest : (p : ℕ) → 2 * distance c t p ≤ t → Nearest c t p
  half_nearest p h x = go (apart t p x)
    where
      go : Apart t p x → distance c t p ≤ distance c t x
      go (inl e) = rw e (le_refl _)
      go (inr (inl a)) = omega (arith, h, a)
      go (inr (inr a)) = omega (arith, h, a)

  module _ (some : 0 < t) where
    -- what is nearest is no further than its neighbours
    nearest-within : (p : ℕ) → Nearest c t p → 2 * distance c t p ≤ t
    nearest-within zero n = omega (arith, some, n 1, suc-mul 0 t)
    nearest-within (suc p) n = omega (arith, some, n p, n (suc (suc p)), suc-mul p t, suc-mul (suc p) t)

    -- p is nearest exactly when it is within a half: twice the distance is at most t, which is one per cent
    pub nearest-exactly : (p : ℕ) → Nearest c t p ↔ (2 * distance c t p ≤ t)
    nearest-exactly p = (nearest-within p, half_nearest p)

    -- another is as near only at an exact half
    half-even : (p : ℕ) → 2 * distance c t p ≤ t → (2 * distance c t p ≡ t → p % 2 ≡ 0) → NearestEven c t p
    half-even p h e = record { nearest = half_nearest p h; even = λ x n d. e (go x (nearest-within x n) d (apart t p x)) }
      where
        go : (x : ℕ) → 2 * distance c t x ≤ t → (x ≡ p → ⊥) → Apart t p x → 2 * distance c t p ≡ t
        go x n d (inl s) = absurd (d (sym s))
        go x n d (inr (inl a)) = omega (arith, h, n, a)
        go x n d (inr (inr a)) = omega (arith, h, n, a)

    -- two that are nearest stand side by side, and only one of them is even
    not-both-even : (p x : ℕ) → NearestEven c t p → NearestEven c t x → p * t + t ≤ x * t → ⊥
    not-both-even p x u v a = go (apart t (suc p) x)
      where
        differ : x ≡ p → ⊥
        differ e = omega (arith, some, a, ap (λ (y : ℕ). y * t) e)

        go : Apart t (suc p) x → ⊥
        go (inl e) = omega (arith, e, u.even x v.nearest differ, v.even p u.nearest (λ s. differ (sym s)))
        go (inr (inl b)) = omega (arith, some, b, suc-mul p t, nearest-within p u.nearest, nearest-within x v.nearest)
        go (inr (inr b)) = omega (arith, some, a, b, suc-mul p t)

    pub nearest-even-unique : (p x : ℕ) → NearestEven c t p → NearestEven c t x → p ≡ x
    nearest-even-unique p x u v = go (apart t p x)
      where
        go : Apart t p x → p ≡ x
        go (inl e) = e
        go (inr (inl a)) = absurd (not-both-even p x u v a)
        go (inr (inr a)) = absurd (not-both-even x p v u a)

    -- ---- per_cent

    -- where 100 c = t q + rest: q, or one more where that goes up
    by-quotient : (q rest : ℕ) (b : Bool) → t * q + rest ≡ 100 * c → rest < t → goes_up t q rest ≡ b → NearestEven c t (q + indicator b)
    by-quotient q rest true e l u =
        let up : t < 2 * rest + q % 2 = ltb-true _ _ (sym (goes_up_is t q rest) ∙ u) in
        let next : (q + 1) * t ≡ t * q + t = omega (arith, add-mul q 1 t, mul_comm t q) in
        half-even (q + 1) (omega (arith, up, next, e, l)) (λ h. omega (arith, up, next, e, h))
    by-quotient q rest false e l u =
        let down : 2 * rest + q % 2 ≤ t = ltb-false _ _ (sym (goes_up_is t q rest) ∙ u) in
        let same : (q + 0) * t ≡ t * q = omega (arith, add-mul q 0 t, mul_comm t q) in
        half-even (q + 0) (omega (arith, down, same, e)) (λ h. omega (arith, down, same, e, h))

    pub per_cent_nearest_even : NearestEven c t (per_cent c t)
    unfolding per_cent
    per_cent_nearest_even = by-quotient (100 * c / t) (100 * c % t) _ (div-add-mod (100 * c) t) (mod-lt (100 * c) some) refl

    -- 100 is nearer than what is above it
    pub per_cent_most : c ≤ t → per_cent c t ≤ 100
    per_cent_most m = go (ltb 100 (per_cent c t)) refl
      where
        go : (b : Bool) → ltb 100 (per_cent c t) ≡ b → per_cent c t ≤ 100
        go true h = absurd (omega (arith, some, m, per_cent_nearest_even.nearest 100, mul-le-mul_right t (ltb-true 100 (per_cent c t) h)))
        go false h = ltb-false 100 _ h

    -- 'Everything not at the half is as before'
    pub per_cent_as_before : ((q : ℕ) → 200 * c ≡ (2 * q + 1) * t → ⊥) → per_cent c t ≡ halves_up c t
    per_cent_as_before none =
        let p = per_cent c t in
        let near : 2 * distance c t p ≤ t = nearest-within p per_cent_nearest_even.nearest in
        let twice : p * (2 * t) ≡ 2 * (p * t) = mul_left_comm p 2 t in
        let half : (2 * p + 1) * t ≡ 2 * (p * t) + t = omega (arith, add-mul (2 * p) 1 t, mul_assoc 2 p t) in
        sym (div-eq_of_lt-le (2 * t) (omega (arith, near, twice)) (omega (arith, near, twice, half, none p, add-mul p 1 (2 * t))))

-- ---- share

module _ {A : Type 0} (O : Ops A) (n : ℕ) where
  pub share_nearest_even : (S : ℕ → A) (l : A) → 0 < n → NearestEven (count n (λ i. O.at_most l (S i))) n (share O n S l)
  unfolding share
  share_nearest_even S l some = per_cent_nearest_even _ n some

  pub share_most : (S : ℕ → A) (l : A) → 0 < n → share O n S l ≤ 100
  unfolding share
  share_most S l some = per_cent_most _ n some (count_most n _)

  pub share_cong : (S U : ℕ → A) (l : A) → ((i : ℕ) → i < n → S i ≡ U i) → share O n S l ≡ share O n U l
  unfolding share
  share_cong S U l h = ap (λ (c : ℕ). per_cent c n) (count_cong n _ _ (λ i k. ap (O.at_most l) (h i k)))
