-- Laws of `differing` and `lowerings`, the entries of m by n tables that do not pass a test beside those of another table, and of the table before.
-- Rests on Simulation, Finite, TestLaws and Loop.
--   Passes: every entry passes
--   differing_cong, differing_most: equal tables; at most m * n
--   differing-zero, differing_passes, differing_some: none is counted where all entries pass, and only there; one that does not is counted
--   lowerings-none, lowerings-more: no round, and one more
--   lowered: in how many steps an entry does not pass; lowerings-entries: the lowerings are these of all entries
--   lowerings-mono: by a test that passes wherever another does there are no more
use Rattle.std.specs.Prelude.{ℕ, suc, ◌+◌, ◌*◌, ◌≤◌, ◌<◌, ◌≡◌, Bool}
use Rattle.std.proofs.Math.Path.{refl, sym, ap, ap₂}
use Rattle.std.proofs.Common.{◌∙◌, ⊎_elim, le_refl}
use Rattle.std.proofs.Math.Bool.{true, false, not}
use native.Mathlib.Omega.{arith}
use Rattle.theory.specs.Simulation.{indicator, count, sum, differing, lowerings}
use Rattle.theory.specs.Finite.{sum_le, sum_mono, sum_some, sum_cong, sum_zeros, sum_swap, count_sum, count_mono}
use Rattle.theory.specs.TestLaws.{decide}
use Rattle.theory.specs.Loop.{indicator_most, count_cong, count_most}

-- in how many of its first t steps a sequence goes to a value that does not pass beside the one before
abbrev pub lowered : {A : Type 0} → (A → A → Bool) → (ℕ → A) → ℕ → ℕ
lowered test s t = count t (λ i. not (test (s i) (s (suc i))))

module _ {A : Type 0} (test : A → A → Bool) (m n : ℕ) where
  -- ---- two tables

  -- every entry passes
  abbrev pub Passes : (ℕ → ℕ → A) → (ℕ → ℕ → A) → Type 0
  Passes S U = (q : ℕ) → q < m → (r : ℕ) → r < n → test (S q r) (U q r) ≡ true

  -- two tables agree at every entry
  abbrev Same : (ℕ → ℕ → A) → (ℕ → ℕ → A) → Type 0
  Same S U = (q : ℕ) → q < m → (r : ℕ) → r < n → S q r ≡ U q r

  pub differing_cong : (S S' U U' : ℕ → ℕ → A) → Same S S' → Same U U' → differing test m n S U ≡ differing test m n S' U'
  unfolding differing
  differing_cong S S' U U' h g = sum_cong m _ _ (λ q l. count_cong n _ _ (λ r k. ap₂ (λ (a b : A). not (test a b)) (h q l r k) (g q l r k)))

  pub differing-zero : (S U : ℕ → ℕ → A) → Passes S U → differing test m n S U ≡ 0
  unfolding differing
  differing-zero S U h =
      sum_cong m _ _ (λ q l. count_sum n (λ r. not (test (S q r) (U q r))) ∙ sum_cong n _ _ (λ r k. ap (λ (b : Bool). indicator (not b)) (h q l r k)) ∙ sum_zeros n)
      ∙ sum_zeros m

  pub differing_some : (S U : ℕ → ℕ → A) (q : ℕ) → q < m → (r : ℕ) → r < n → ¬ (test (S q r) (U q r) ≡ true) → 0 < differing test m n S U
  unfolding differing
  differing_some S U q l r k w =
      sum_some m (λ x. count n (λ y. not (test (S x y) (U x y)))) q l
      (rw (count_sum n (λ y. not (test (S q y) (U q y)))) (sum_some n (λ y. indicator (not (test (S q y) (U q y)))) r k (go (test (S q r) (U q r)) w)))
    where
      go : (b : Bool) → ¬ (b ≡ true) → 0 < indicator (not b)
      go true w = absurd (w refl)
      go false w = omega arith

  pub differing_passes : (S U : ℕ → ℕ → A) → differing test m n S U ≡ 0 → Passes S U
  differing_passes S U e q l r k = ⊎_elim (λ p. p) (λ w. absurd (omega (arith, e, differing_some S U q l r k w))) (decide (test (S q r) (U q r)))

  pub differing_most : (S U : ℕ → ℕ → A) → differing test m n S U ≤ m * n
  unfolding differing
  differing_most S U = sum_le m n _ (λ q l. count_most n _)

  -- ---- a sequence of tables

  module _ (s : ℕ → ℕ → ℕ → A) where
    pub lowerings-none : lowerings test m n s 0 ≡ 0
    unfolding lowerings sum
    lowerings-none = refl

    pub lowerings-more : (t : ℕ) → lowerings test m n s (suc t) ≡ lowerings test m n s t + differing test m n (s t) (s (suc t))
    unfolding lowerings sum
    lowerings-more t = refl

    -- whether entry (q, r) does not pass in step i
    abbrev fails : ℕ → ℕ → ℕ → Bool
    fails i q r = not (test (s i q r) (s (suc i) q r))

    pub lowerings-entries : (t : ℕ) → lowerings test m n s t ≡ sum m (λ q. sum n (λ r. lowered test (λ i. s i q r) t))
    unfolding lowerings differing
    lowerings-entries t =
        sum_swap t m (λ i q. count n (fails i q))
        ∙ sum_cong m _ _ (λ q l.
        sum_cong t _ _ (λ i k. count_sum n (fails i q))
        ∙ sum_swap t n (λ i r. indicator (fails i q r))
        ∙ sum_cong n _ _ (λ r k. sym (count_sum t (λ i. fails i q r))))

    pub lowerings-mono : (same : A → A → Bool) → ((i q : ℕ) → q < m → (r : ℕ) → r < n → test (s i q r) (s (suc i) q r) ≡ true → same (s i q r) (s (suc i) q r) ≡ true)
        → (t : ℕ) → lowerings same m n s t ≤ lowerings test m n s t
    unfolding lowerings differing
    lowerings-mono same passes t = sum_mono t _ _ (λ i j. sum_mono m _ _ (λ q l. count_mono n (λ r. not (same (s i q r) (s (suc i) q r))) (fails i q) (λ r k. fewer (test (s i q r) (s (suc i) q r)) (passes i q l r k))))
      where
        fewer : {b : Bool} (c : Bool) → (c ≡ true → b ≡ true) → indicator (not b) ≤ indicator (not c)
        fewer {b} true h = rw (h refl) (le_refl _)
        fewer {b} false h = indicator_most (not b)
