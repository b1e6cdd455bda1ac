-- Laws of tests: of truth values, and of tests over the numbers below a limit, as loops and theorems use them. Rests on Test.
--   below_suc: the numbers below suc n are those below n, and n; decide: a test is passed or not
--   and_l, and_r, and_in, and_false, all_four, not_and, or_l, or_r, cond_true, cond_false, ⇒-elim, ⇒-in: of the truth values
--   bool_same: tests that imply each other are the same; not_passed, not_failed, false_true: a test that cannot be passed, or fail
--   all_at, all_in, all_cong, all_none, all_more, all_fails, all_done: of all_below; below_at: a byte that passed the test below a limit
--   FirstAt, first_is, first_unique: of first_below
use Rattle.std.specs.Prelude.{ℕ, zero, suc, ◌+◌, ◌-◌, ◌≤◌, ◌<◌, ◌≡◌, refl, Bool, true, false, cond, not, ◌&&◌, ◌||◌, ◌⊎◌, List, ltb, get_or}
use Rattle.std.proofs.Common.{sym, ap₂, subst, inl, inr, ⊎_elim, le_refl, eq-or-lt_of_le, le_of_suc-le-suc, not-suc-le-zero, add-one, arith, ltb-true, ltb-false}
use Rattle.theory.specs.Test.{all_below, ◌⇒◌, first_below}

-- the numbers below suc n are those below n, and n
pub below_suc : {P : ℕ → Type 0} {n : ℕ} → ((i : ℕ) → i < n → P i) → P n → (i : ℕ) → i < suc n → P i
below_suc {P} f h i q = ⊎_elim (λ e. subst P (sym e) h) (λ l. f i l) (eq-or-lt_of_le (le_of_suc-le-suc q))

-- a test is passed or it is not
pub decide : (b : Bool) → (b ≡ true) ⊎ (¬ (b ≡ true))
decide true = inl refl
decide false = inr (λ e. let z : ◌≡◌ {A = ℕ} 0 1 = cc in omega arith)

-- ---- Boolean laws

pub and_l : (a b : Bool) → (a && b) ≡ true → a ≡ true
and_l true b t = refl
and_l false b t = t

pub and_r : (a b : Bool) → (a && b) ≡ true → b ≡ true
and_r true b t = t
and_r false b t = cc

pub and_in : (a b : Bool) → a ≡ true → b ≡ true → (a && b) ≡ true
and_in a b p q = rw (p, q)

-- four tests, all passed
pub record FourPassed (a b c d : Bool) : Type 0 where
  pub first : a ≡ true
  pub second : b ≡ true
  pub third : c ≡ true
  pub fourth : d ≡ true

pub all_four : (a b c d : Bool) → (a && b && c && d) ≡ true → FourPassed a b c d
all_four a b c d t =
    let u = and_l (a && b && c) d t in
    let v = and_l (a && b) c u in
    record { first = and_l a b v; second = and_r a b v; third = and_r (a && b) c u; fourth = and_r (a && b && c) d t }

pub and_false : (a : Bool) → (a && false) ≡ false
and_false true = refl
and_false false = refl

pub not_and : (a b : Bool) → not (a && b) ≡ (not a || not b)
not_and true b = refl
not_and false b = refl

pub or_l : (a b : Bool) → (a || b) ≡ false → a ≡ false
or_l true b e = e
or_l false b e = refl

pub or_r : (a b : Bool) → (a || b) ≡ false → b ≡ false
or_r true b e = cc
or_r false b e = e

-- one of two, by a test
pub cond_true : {A : Type 0} (t : Bool) (x y : A) → t ≡ true → cond t x y ≡ x
cond_true t x y e = rw e

pub cond_false : {A : Type 0} (t : Bool) (x y : A) → t ≡ false → cond t x y ≡ y
cond_false t x y e = rw e

pub ⇒-elim : (a b : Bool) → (a ⇒ b) ≡ true → a ≡ true → b ≡ true
⇒-elim true b t s = t
⇒-elim false b t s = cc

pub ⇒-in : (a b : Bool) → (a ≡ true → b ≡ true) → (a ⇒ b) ≡ true
⇒-in true b h = h refl
⇒-in false b h = refl

-- two tests that imply each other are the same
pub bool_same : (a b : Bool) → (a ≡ true → b ≡ true) → (b ≡ true → a ≡ true) → a ≡ b
bool_same true true f g = refl
bool_same true false f g = sym (f refl)
bool_same false true f g = g refl
bool_same false false f g = refl

-- a test that cannot be passed fails
pub not_passed : (a : Bool) → (a ≡ true → ⊥) → a ≡ false
not_passed true h = absurd (h refl)
not_passed false h = refl

-- and one that cannot fail is passed
pub not_failed : (a : Bool) → (a ≡ false → ⊥) → a ≡ true
not_failed true h = refl
not_failed false h = absurd (h refl)

pub false_true : {a : Bool} → a ≡ false → a ≡ true → ⊥
false_true p q = let z : ◌≡◌ {A = ℕ} 0 1 = cc in omega arith

-- ---- all_below

pub all_at : (n : ℕ) (f : ℕ → Bool) → all_below n f ≡ true → (i : ℕ) → i < n → f i ≡ true
unfolding all_below
all_at zero f t i l = absurd (not-suc-le-zero l)
all_at (suc n) f t i l = below_suc {P = λ j. f j ≡ true} (all_at n f (and_l (all_below n f) (f n) t)) (and_r (all_below n f) (f n) t) i l

pub all_in : (n : ℕ) (f : ℕ → Bool) → ((i : ℕ) → i < n → f i ≡ true) → all_below n f ≡ true
unfolding all_below
all_in zero f h = refl
all_in (suc n) f h = and_in _ _ (all_in n f (λ i l. h i (omega arith))) (h n (le_refl _))

pub all_cong : (n : ℕ) (f g : ℕ → Bool) → ((i : ℕ) → i < n → f i ≡ g i) → all_below n f ≡ all_below n g
unfolding all_below
all_cong zero f g h = refl
all_cong (suc n) f g h = ap₂ ◌&&◌ (all_cong n f g (λ i l. h i (omega arith))) (h n (le_refl _))

-- for a loop: where it begins, one more turn, a failure, and its end
pub all_none : (f : ℕ → Bool) → all_below 0 f ≡ true
unfolding all_below
all_none f = refl

pub all_more : (n : ℕ) (f : ℕ → Bool) → all_below n f ≡ true → f n ≡ true → all_below (n + 1) f ≡ true
unfolding all_below
all_more n f p q = rw add-one (and_in _ _ p q)

pub all_fails : (n i : ℕ) (f : ℕ → Bool) → i < n → f i ≡ false → all_below n f ≡ false
all_fails n i f l p = not_passed _ (λ t. false_true p (all_at n f t i l))

pub all_done : (n i : ℕ) (f : ℕ → Bool) → i ≤ n → n ≤ i → all_below i f ≡ true → all_below n f ≡ true
all_done n i f a b e = let q : i ≡ n = omega arith in rw q at e

-- ---- first_below

-- of `count` bytes from `from` on, each of which is below n
pub below_at : (s : List ℕ) (from count n : ℕ) → all_below count (λ i. ltb (get_or s (from + i) 0) n) ≡ true → (i : ℕ) → from ≤ i → i < from + count → get_or s i 0 < n
below_at s from count n e i l m =
    let z : from + (i - from) ≡ i = omega arith in
    rw z at (ltb-true (get_or s (from + (i - from)) 0) n (all_at count (λ j. ltb (get_or s (from + j) 0) n) e (i - from) (omega arith)))

-- what the least number is
pub record FirstAt (n : ℕ) (f : ℕ → Bool) (r : ℕ) : Type 0 where
  pub most : r ≤ n
  pub passes : r < n → f r ≡ true
  pub earlier : (i : ℕ) → i < r → f i ≡ false

pub first_is : (n : ℕ) (f : ℕ → Bool) → FirstAt n f (first_below n f)
unfolding first_below
first_is zero f = record { most = le_refl _; passes = λ l. absurd (not-suc-le-zero l); earlier = λ i l. absurd (not-suc-le-zero l) }
first_is (suc n) f = go (ltb (first_below n f) n) refl (f n) refl (first_is n f)
  where
    go : (b : Bool) → ltb (first_below n f) n ≡ b → (c : Bool) → f n ≡ c → FirstAt n f (first_below n f) → FirstAt (suc n) f (cond b (first_below n f) (cond c n (suc n)))
    go true e c p w = let l : first_below n f < n = ltb-true _ _ e in record { most = omega (arith, w.most); passes = λ m. w.passes l; earlier = w.earlier }
    go false e true p w = record { most = omega arith; passes = λ m. p; earlier = λ i l. w.earlier i (omega (arith, ltb-false (first_below n f) n e)) }
    go false e false p w = record { most = le_refl _; passes = λ m. absurd (omega arith); earlier = below_suc {P = λ i. f i ≡ false} (λ i l. w.earlier i (omega (arith, ltb-false (first_below n f) n e))) p }

-- there is only one such number
pub first_unique : (n : ℕ) (f : ℕ → Bool) (r : ℕ) → FirstAt n f r → r ≡ first_below n f
first_unique n f r w = go (first_is n f)
  where
    go : FirstAt n f (first_below n f) → r ≡ first_below n f
    go v =
        let x : ¬ (r < first_below n f) = λ l. false_true (v.earlier r l) (w.passes (omega (arith, v.most))) in
        let y : ¬ (first_below n f < r) = λ l. false_true (w.earlier _ l) (v.passes (omega (arith, w.most))) in
        omega arith
