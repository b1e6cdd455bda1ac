-- Sums, counts, searches and lists of finitely many things. Rests on Lattice, Simulation (sum, count), TestLaws and Loop.
--   sum_le, sum_mono, sum_strict, sum_some: limits of a sum
--   sum_cong, sum_zeros: equal values, equal sums; of zeros
--   sum_add, sum_swap: sums of sums; count_sum: a count is a sum
--   count_mono: no more pass, a count no greater; count-rows: counted row by row
--   scan: all numbers below n have P, or here is one that has Q
--   First: t is the least number with P; first_exists: there is one, at most B
--   all_map, pairwise_map: what holds of all, or of every two, entries of a list, weakened
--   all_under, all_image, pairwise_under: the same, of the list with a function applied to each entry
use Rattle.std.specs.Prelude.{ℕ, zero, suc, ◌+◌, ◌*◌, ◌≤◌, ◌<◌, ◌≡◌, refl, Bool, ◌⊎◌, List, [], ◌∷◌, map}
use Rattle.std.proofs.Common.{zero-le, sym, ap, ap₂, ◌∙◌, inl, inr, add-zero, add-suc, zero-mul, suc-mul, not-suc-le-zero, le_refl, le_trans, arith}
use Rattle.theory.specs.Lattice.{All, Pairwise}
use Rattle.theory.specs.Simulation.{indicator, count, sum}
use Rattle.theory.specs.TestLaws.{below_suc}
use Rattle.theory.specs.Loop.{count_none}

-- ---- sums of f 0, .., f (n - 1)

pub sum_le : (n c : ℕ) (f : ℕ → ℕ) → ((i : ℕ) → i < n → f i ≤ c) → sum n f ≤ n * c
unfolding sum
sum_le zero c f h = zero-le
sum_le (suc n) c f h = omega (arith, suc-mul n c, sum_le n c f (λ i l. h i (omega arith)), h n (le_refl _))

pub sum_mono : (n : ℕ) (f g : ℕ → ℕ) → ((i : ℕ) → i < n → f i ≤ g i) → sum n f ≤ sum n g
unfolding sum
sum_mono zero f g h = le_refl _
sum_mono (suc n) f g h = omega (arith, sum_mono n f g (λ i l. h i (omega arith)), h n (le_refl _))

pub sum_strict : (n : ℕ) (f g : ℕ → ℕ) → ((i : ℕ) → i < n → f i ≤ g i) → (j : ℕ) → j < n → f j < g j → sum n f < sum n g
unfolding sum
sum_strict zero f g h j l s = absurd (not-suc-le-zero l)
sum_strict (suc n) f g h j l s =
    below_suc {P = λ i. f i < g i → sum n f + f n < sum n g + g n}
    (λ i m t. omega (arith, sum_strict n f g (λ x y. h x (omega arith)) i m t, h n (le_refl _)))
    (λ t. omega (arith, sum_mono n f g (λ x y. h x (omega arith))))
    j l s

pub sum_some : (n : ℕ) (f : ℕ → ℕ) (j : ℕ) → j < n → 0 < f j → 0 < sum n f
sum_some n f j l s = le_trans (omega arith) (sum_strict n (λ i. 0) f (λ i m. zero-le) j l s)

pub sum_cong : (n : ℕ) (f g : ℕ → ℕ) → ((i : ℕ) → i < n → f i ≡ g i) → sum n f ≡ sum n g
unfolding sum
sum_cong zero f g h = refl
sum_cong (suc n) f g h = ap₂ ◌+◌ (sum_cong n f g (λ i l. h i (omega arith))) (h n (le_refl _))

pub sum_add : (n : ℕ) (f g : ℕ → ℕ) → sum n (λ i. f i + g i) ≡ sum n f + sum n g
unfolding sum
sum_add zero f g = refl
sum_add (suc n) f g = omega (arith, sum_add n f g)

pub sum_zeros : (n : ℕ) → sum n (λ i. 0) ≡ 0
unfolding sum
sum_zeros zero = refl
sum_zeros (suc n) = omega (arith, sum_zeros n)

-- the entries of a table, summed by columns or by rows
pub sum_swap : (m n : ℕ) (f : ℕ → ℕ → ℕ) → sum m (λ i. sum n (f i)) ≡ sum n (λ j. sum m (λ i. f i j))
unfolding sum
sum_swap zero n f = sym (sum_zeros n)
sum_swap (suc m) n f = omega (arith, sum_swap m n f, sum_add n (λ j. sum m (λ i. f i j)) (f m))

pub count_sum : (n : ℕ) (f : ℕ → Bool) → count n f ≡ sum n (λ i. indicator (f i))
unfolding count sum
count_sum zero f = refl
count_sum (suc n) f = ap (λ (k : ℕ). k + indicator (f n)) (count_sum n f)

pub count_mono : (n : ℕ) (f g : ℕ → Bool) → ((i : ℕ) → i < n → indicator (f i) ≤ indicator (g i)) → count n f ≤ count n g
count_mono n f g h = rw (count_sum n f, count_sum n g) (sum_mono n _ _ h)

count_append : (m n : ℕ) (f : ℕ → Bool) → count (m + n) f ≡ count m f + count n (λ i. f (m + i))
unfolding count
count_append m zero f = ap (λ (k : ℕ). count k f) (add-zero m) ∙ sym (add-zero (count m f))
count_append m (suc n) f = rw add-suc (omega (arith, count_append m n f))

-- m rows of n, counted one after the other
pub count-rows : (m n : ℕ) (f : ℕ → Bool) → count (m * n) f ≡ sum m (λ q. count n (λ r. f (q * n + r)))
unfolding sum
count-rows zero n f = ap (λ (k : ℕ). count k f) (zero-mul n) ∙ count_none f
count-rows (suc m) n f = ap (λ (k : ℕ). count k f) (suc-mul m n) ∙ count_append (m * n) n f ∙ ap (λ (k : ℕ). k + count n (λ r. f (m * n + r))) (count-rows m n f)

-- ---- finite searches

-- all of 0, .., n - 1 have P, or here is one that has Q
pub scan : (n : ℕ) (P Q : ℕ → Type 0) → ((i : ℕ) → i < n → P i ⊎ Q i) → ((i : ℕ) → i < n → P i) ⊎ ((i : ℕ) × (i < n) × Q i)
scan zero P Q d = inl (λ i l. absurd (not-suc-le-zero l))
scan (suc n) P Q d = go (scan n P Q (λ i l. d i (omega arith))) (d n (le_refl _))
  where
    go : ((i : ℕ) → i < n → P i) ⊎ ((i : ℕ) × (i < n) × Q i) → P n ⊎ Q n → ((i : ℕ) → i < suc n → P i) ⊎ ((i : ℕ) × (i < suc n) × Q i)
    go (inr w) e = inr (w.0, omega arith, w.2)
    go (inl a) (inl p) = inl (below_suc {P = P} a p)
    go (inl a) (inr q) = inr (n, le_refl _, q)

-- t is the least number with P
pub record First (P : ℕ → Type 0) (t : ℕ) : Type 0 where
  pub here : P t
  pub earlier : (j : ℕ) → j < t → ¬ P j

-- there is a least number with P, where P cannot fail at all numbers up to B
pub first_exists : (P : ℕ → Type 0) (B : ℕ) → ((t : ℕ) → P t ⊎ (¬ P t)) → ((t : ℕ) → ((j : ℕ) → j < t → ¬ P j) → t ≤ B) → (t : ℕ) × (t ≤ B) × First P t
first_exists P B dec limit = go (find (suc B))
  where
    Found : ℕ → Type 0
    Found d = ((j : ℕ) → j < d → ¬ P j) ⊎ ((t : ℕ) × (t < d) × First P t)

    next : (d : ℕ) → Found d → P d ⊎ (¬ P d) → Found (suc d)
    next d (inr w) e = inr (w.0, omega arith, w.2)
    next d (inl a) (inl p) = inr (d, le_refl _, record { here = p; earlier = a })
    next d (inl a) (inr q) = inl (below_suc {P = λ j. ¬ P j} a q)

    find : (d : ℕ) → Found d
    find zero = inl (λ j l. absurd (not-suc-le-zero l))
    find (suc d) = next d (find d) (dec d)

    go : Found (suc B) → (t : ℕ) × (t ≤ B) × First P t
    go (inl a) = let l : suc B ≤ B = limit (suc B) a in absurd (omega arith)
    go (inr w) = (w.0, omega arith, w.2)

-- ---- lists

module _ {A : Type 0} where
  pub all_map : (P Q : A → Type 0) → ((a : A) → P a → Q a) → (l : List A) → All P l → All Q l
  all_map P Q f [] h = tt
  all_map P Q f (a ∷ l) h = (f a h.0, all_map P Q f l h.1)

  pub pairwise_map : (R S : A → A → Type 0) → ((a b : A) → R a b → S a b) → (l : List A) → Pairwise R l → Pairwise S l
  pairwise_map R S f [] c = tt
  pairwise_map R S f (a ∷ l) c = (all_map _ _ (f a) l c.0, pairwise_map R S f l c.1)

module _ {A B : Type 0} (f : A → B) where
  pub all_under : (P : A → Type 0) (Q : B → Type 0) → ((a : A) → P a → Q (f a)) → (l : List A) → All P l → All Q (map f l)
  all_under P Q g [] h = tt
  all_under P Q g (a ∷ l) h = (g a h.0, all_under P Q g l h.1)

  pub all_image : (Q : B → Type 0) → ((a : A) → Q (f a)) → (l : List A) → All Q (map f l)
  all_image Q g [] = tt
  all_image Q g (a ∷ l) = (g a, all_image Q g l)

  pub pairwise_under : (R : A → A → Type 0) (S : B → B → Type 0) → ((a b : A) → R a b → S (f a) (f b)) → (l : List A) → Pairwise R l → Pairwise S (map f l)
  pairwise_under R S g [] c = tt
  pairwise_under R S g (a ∷ l) c = (all_under _ _ (g a) l c.0, pairwise_under R S g l c.1)
