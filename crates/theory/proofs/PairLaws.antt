-- Theorem 10: how great the count of pairs of request 103 is at most, and when it is 0. Rests on Pairs, Simulation, Value, Folds, Loop and TestLaws.
--   meet_whole, join_whole: over all states the meet and the joins are those of F
--   bottom_exactly, top_exactly: what the two tests ask
--   pairs_most: at most N1·N2; pairs_none: 0 exactly when the propositions' meet is bottom
--   count_pairs_cong: equal tests, equal counts; count_first: a count of tests that are passed up to one, and none from there on; count_pairs_none, count_pairs_more,
--     count_pairs_stop: a loop that counts, and ends where no more tests are passed
use Rattle.std.specs.Prelude.{ℕ, zero, suc, ◌+◌, ◌*◌, ◌-◌, ◌≤◌, ◌<◌, ◌≡◌, Bool, true, false, ◌&&◌, ◌↔◌, ◌⊎◌}
use Rattle.std.proofs.Math.Path.{refl, ap}
use Rattle.std.proofs.Common.{ap₂, ◌∙◌, inl, inr, le_refl, add-zero, add-suc, suc-mul, not-suc-le-zero, add-one, arith}
use Rattle.std.proofs.Math.Bool.{not}
use Rattle.std.proofs.Math.Logic.{⊎_elim}
use Rattle.theory.specs.Lattice.{Ops, Laws, AtMost, Element, big_meet, big_join}
use Rattle.theory.specs.Model.{Model}
use Rattle.theory.specs.Value.{all_next, some_next}
use Rattle.theory.specs.Simulation.{proposition_part, successor_part, F, indicator, count}
use Rattle.theory.specs.Pairs.{count_pairs, is_bottom, is_top, meet_before, join_before, looked_at, pairs}
use Rattle.theory.specs.Folds.{big_meet-element}
use Rattle.theory.specs.Loop.{count_most, count_cong}
use Rattle.theory.specs.TestLaws.{below_suc, false_true}

module _ {A : Type 0} (O : Ops A) (M₁ M₂ : Model A) (S : ℕ → ℕ → A) (q₁ q₂ : ℕ) where
  pub meet_whole : meet_before O M₁ M₂ S q₁ q₂ M₁.states ≡ F O M₁ M₂ S q₁ q₂
  unfolding meet_before F successor_part all_next
  meet_whole = refl

module _ {A : Type 0} (O : Ops A) (M₂ : Model A) (S : ℕ → ℕ → A) (q₂ : ℕ) where
  pub join_whole : (q₁' : ℕ) → join_before O M₂ S q₂ q₁' M₂.states ≡ some_next O M₂ (S q₁') q₂
  unfolding join_before some_next
  join_whole q₁' = refl

-- bottom alone is at or below bottom, and top alone at or above top
module _ {A : Type 0} {O : Ops A} (L : Laws O) {a : A} (e : Element O a) where
  open L use {rfl, antisym, top_max, bot_min, top-element, bot-element}

  pub bottom_exactly : (is_bottom O a ≡ true) ↔ (a ≡ O.bot)
  bottom_exactly = (λ h. antisym e bot-element h (bot_min a), λ h. rw h (rfl O.bot))

  pub top_exactly : (is_top O a ≡ true) ↔ (a ≡ O.top)
  top_exactly = (λ h. antisym e top-element (top_max a) h, λ h. rw h (rfl O.top))

-- ---- counts

count_pairs_most : (m n : ℕ) (f : ℕ → ℕ → Bool) → count_pairs m n f ≤ m * n
unfolding count_pairs
count_pairs_most zero n f = omega arith
count_pairs_most (suc m) n f = omega (arith, count_pairs_most m n f, count_most n (f m), suc-mul m n)

pub count_pairs_cong : (m n : ℕ) (f g : ℕ → ℕ → Bool) → ((i j : ℕ) → i < m → j < n → f i j ≡ g i j) → count_pairs m n f ≡ count_pairs m n g
unfolding count_pairs
count_pairs_cong zero n f g h = refl
count_pairs_cong (suc m) n f g h = ap₂ ◌+◌ (count_pairs_cong m n f g (λ i j k l. h i j (omega arith) l)) (count_cong n (f m) (g m) (λ j l. h m j (le_refl _) l))

-- no test is passed, and the count is 0; and the other way
count_none_passes : (n : ℕ) (f : ℕ → Bool) → ((i : ℕ) → i < n → f i ≡ false) → count n f ≡ 0
unfolding count
count_none_passes zero f h = refl
count_none_passes (suc n) f h = ap₂ ◌+◌ (count_none_passes n f (λ i l. h i (omega arith))) (ap indicator (h n (le_refl _)))

indicator_none : (b : Bool) → indicator b ≡ 0 → b ≡ false
indicator_none true e = absurd (omega (arith, e))
indicator_none false e = refl

count_none-passed : (n : ℕ) (f : ℕ → Bool) → count n f ≡ 0 → (i : ℕ) → i < n → f i ≡ false
unfolding count
count_none-passed zero f e i l = absurd (not-suc-le-zero l)
count_none-passed (suc n) f e i l = below_suc {P = λ i. f i ≡ false} (count_none-passed n f (omega (arith, e))) (indicator_none (f n) (omega (arith, e))) i l

-- where the first k tests are passed, and none after them, k is the count
count-passed : (k : ℕ) (f : ℕ → Bool) → ((j : ℕ) → j < k → f j ≡ true) → count k f ≡ k
unfolding count
count-passed zero f h = refl
count-passed (suc k) f h = ap₂ ◌+◌ (count-passed k f (λ j l. h j (omega arith))) (ap indicator (h k (le_refl _))) ∙ omega arith

count_past : (k d : ℕ) (f : ℕ → Bool) → ((j : ℕ) → k ≤ j → j < k + d → f j ≡ false) → count (k + d) f ≡ count k f
unfolding count
count_past k zero f g = ap (λ (x : ℕ). count x f) (add-zero k)
count_past k (suc d) f g =
    ap (λ (x : ℕ). count x f) (add-suc k d)
    ∙ ap₂ ◌+◌ (count_past k d f (λ j l m. g j l (omega arith))) (ap indicator (g (k + d) (omega arith) (omega arith))) ∙ add-zero _

pub count_first : (k n : ℕ) (f : ℕ → Bool) → k ≤ n → ((j : ℕ) → j < k → f j ≡ true) → ((j : ℕ) → k ≤ j → j < n → f j ≡ false) → count n f ≡ k
count_first k n f l h g =
    let e : n ≡ k + (n - k) = omega arith in
    ap (λ (x : ℕ). count x f) e ∙ count_past k (n - k) f (λ j a b. g j a (omega arith)) ∙ count-passed k f h

-- a loop over the pairs: its begin, and one turn more
pub count_pairs_none : (n : ℕ) (f : ℕ → ℕ → Bool) → count_pairs 0 n f ≡ 0
unfolding count_pairs
count_pairs_none n f = refl

pub count_pairs_more : (m n : ℕ) (f : ℕ → ℕ → Bool) → count_pairs (m + 1) n f ≡ count_pairs m n f + count n (f m)
unfolding count_pairs
count_pairs_more m n f = rw add-one

-- from m on no test is passed
count_pairs_past : (m k n : ℕ) (f : ℕ → ℕ → Bool) → ((i j : ℕ) → m ≤ i → j < n → f i j ≡ false) → count_pairs (m + k) n f ≡ count_pairs m n f
unfolding count_pairs
count_pairs_past m zero n f h = ap (λ (x : ℕ). count_pairs x n f) (add-zero m)
count_pairs_past m (suc k) n f h =
    ap (λ (x : ℕ). count_pairs x n f) (add-suc m k)
    ∙ ap₂ ◌+◌ (count_pairs_past m k n f h) (count_none_passes n (f (m + k)) (λ j l. h (m + k) j (omega arith) l)) ∙ add-zero _

pub count_pairs_stop : (m k n : ℕ) (f : ℕ → ℕ → Bool) → m ≤ k → ((i j : ℕ) → m ≤ i → j < n → f i j ≡ false) → count_pairs k n f ≡ count_pairs m n f
count_pairs_stop m k n f l h = let e : k ≡ m + (k - m) = omega arith in ap (λ (x : ℕ). count_pairs x n f) e ∙ count_pairs_past m (k - m) n f h

count_pairs_none-passed : (m n : ℕ) (f : ℕ → ℕ → Bool) → count_pairs m n f ≡ 0 → (i : ℕ) → i < m → (j : ℕ) → j < n → f i j ≡ false
unfolding count_pairs
count_pairs_none-passed zero n f e i l = absurd (not-suc-le-zero l)
count_pairs_none-passed (suc m) n f e i l = below_suc {P = λ i. (j : ℕ) → j < n → f i j ≡ false} (count_pairs_none-passed m n f (omega (arith, e))) (count_none-passed n (f m) (omega (arith, e))) i l

-- ---- the theorems

module _ {A : Type 0} (O : Ops A) (M₁ M₂ : Model A) (S : ℕ → ℕ → A) (q₁ q₂ : ℕ) where
  pub pairs_most : pairs O M₁ M₂ S q₁ q₂ ≤ M₁.states * M₂.states
  unfolding pairs
  pairs_most = count_pairs_most M₁.states M₂.states _

-- one of two tests is passed
one_passed : (a b : Bool) → (not a && not b) ≡ false → (a ≡ true) ⊎ (b ≡ true)
one_passed true b e = inl refl
one_passed false true e = inr refl
one_passed false false e = absurd (false_true e refl)

module _ {A : Type 0} {O : Ops A} (L : Laws O) (M₁ M₂ : Model A) (S : ℕ → ℕ → A) (q₁ q₂ : ℕ) where
  open L use {rfl, trans, meet_l, meet_glb, top_max}

  -- the propositions' meet is bottom, as a test
  abbrev low : Type 0
  low = AtMost O (proposition_part O M₁ M₂ q₁ q₂) O.bot

  low_exactly : low ↔ (proposition_part O M₁ M₂ q₁ q₂ ≡ O.bot)
  unfolding proposition_part
  low_exactly = bottom_exactly L (big_meet-element L M₁.propositions _)

  -- a meet with what is bottom is bottom, so that no pair is looked at
  none_looked_at : low → (i j : ℕ) → looked_at O M₁ M₂ S q₁ q₂ i j ≡ false
  unfolding looked_at meet_before
  none_looked_at h i j = ap (λ (b : Bool). not b && not (is_top O (join_before O M₂ S q₂ i j))) (trans (meet_l _ _) h)

  -- the first pair is looked at unless it is
  first_pair : looked_at O M₁ M₂ S q₁ q₂ 0 0 ≡ false → low
  unfolding looked_at meet_before join_before big_meet big_join
  first_pair e = ⊎_elim (λ h. trans (meet_glb (rfl _) (top_max _)) h) (λ h. trans (top_max _) h) (one_passed _ _ e)

  pub pairs_none : 0 < M₁.states → 0 < M₂.states → (pairs O M₁ M₂ S q₁ q₂ ≡ 0) ↔ (proposition_part O M₁ M₂ q₁ q₂ ≡ O.bot)
  unfolding pairs count_pairs
  pairs_none a b = (
    λ e. low_exactly.0 (first_pair (count_pairs_none-passed M₁.states M₂.states _ e 0 a 0 b)),
    λ e. count_pairs_stop 0 M₁.states M₂.states _ (omega arith) (λ i j k l. none_looked_at (low_exactly.1 e) i j),
  )
