-- Loops that count up from 0: the invariant of each kind, with a law for its begin (-none), for one turn more (-more) and for its end.
-- Rests on Lattice, Simulation, Test, Lists.
--   Folded: x is the fold of the first n values; folded_none, folded_more, folded_all; as a finite meet or join folded_meet, folded_join
--   fold_cong, count_cong: equal values, equal folds and counts
--   Counted: c of the first n pass; counted_none, counted_more, counted_all; count_most: a count is at most the number of tests
--   Passed: the first n pass; passed_none, passed_more, passed_all; where one fails passed_stop
--   Filled (Lists): the first q entries of a list are filled; filled_none, filled_more, filled_all; fewer of them, by a rule that says the same filled_as
--   tab_at, tab-length, tab_more: a list by its rule
--   big_meet_none, big_meet_more and so on: the same of the definitions themselves
--   reached: a counter that is neither below nor above its end
use Prim.Native.Nat.{ℕ, zero, suc, ◌+◌, ◌<◌, ◌≤◌}
use Rattle.std.specs.Prelude.{◌≡◌, Bool, true, false, List, [], ◌∷◌, ◌++◌, length, get_or, set}
use Rattle.std.proofs.Math.Path.{refl, ap₂}
use Rattle.std.proofs.Common.{sym, ap, ◌∙◌, ⊎_elim, add-zero, zero-add, add-suc, suc-add, le_refl, le_of_suc-le-suc, not-suc-le-zero, eq-or-lt_of_le, arith, ext_get_or, get_or-set_same, get_or-set_other}
use Rattle.std.proofs.Math.Numerals.{add-one}
use Rattle.theory.specs.Lattice.{Ops, big_meet, big_join}
use Rattle.theory.specs.Simulation.{indicator, count}
use Rattle.theory.specs.Test.{all_below}
use Rattle.theory.specs.TestLaws.{all_none, all_more, all_fails, all_done}
use Rattle.theory.specs.Lists.{tab, Filled}

-- ---- one more turn of a finite meet, a finite join and a count

module _ {A : Type 0} (O : Ops A) where
  pub big_meet_none : (f : ℕ → A) → big_meet O 0 f ≡ O.top
  unfolding big_meet
  big_meet_none f = refl

  pub big_meet_more : (n : ℕ) (f : ℕ → A) → big_meet O (n + 1) f ≡ O.meet (big_meet O n f) (f n)
  unfolding big_meet
  big_meet_more n f = rw add-one

  pub big_join_none : (f : ℕ → A) → big_join O 0 f ≡ O.bot
  unfolding big_join
  big_join_none f = refl

  pub big_join_more : (n : ℕ) (f : ℕ → A) → big_join O (n + 1) f ≡ O.join (big_join O n f) (f n)
  unfolding big_join
  big_join_more n f = rw add-one

pub count_none : (f : ℕ → Bool) → count 0 f ≡ 0
unfolding count
count_none f = refl

pub count_more : (n : ℕ) (f : ℕ → Bool) → count (n + 1) f ≡ count n f + indicator (f n)
unfolding count
count_more n f = rw add-one

-- a loop's counter that has reached its end
pub reached : {A : Type 0} (f : ℕ → A) {i n : ℕ} → i ≤ n → n ≤ i → f i ≡ f n
reached f {i} {n} p q = let e : i ≡ n = omega arith in ap f e

-- ---- a loop that folds

-- g (.. (g start (f 0)) ..) (f (n - 1))
unfoldable pub fold : {A : Type 0} → (A → A → A) → A → (ℕ → A) → ℕ → A
fold g start f zero = start
fold g start f (suc n) = g (fold g start f n) (f n)

-- x is the fold of the first n values. A record, so that a goal shows g, start, f and n
pub record Folded {A : Type 0} (g : A → A → A) (start : A) (f : ℕ → A) (n : ℕ) (x : A) : Type 0 where
  pub eq : x ≡ fold g start f n

pub folded_none : {A : Type 0} {g : A → A → A} {start : A} {f : ℕ → A} → Folded g start f 0 start
unfolding fold
folded_none = record { eq = refl }

-- one turn, in which the value v is added
pub folded_more : {A : Type 0} {g : A → A → A} {start : A} {f : ℕ → A} {n : ℕ} {x v y : A} → Folded g start f n x → v ≡ f n → y ≡ g x v → Folded g start f (n + 1) y
unfolding fold
folded_more u d e = record { eq = e ∙ rw (add-one, d, ← u.eq) }

-- at the loop's end the counter i has reached n
pub folded_all : {A : Type 0} {g : A → A → A} {start : A} {f : ℕ → A} {n i : ℕ} {x : A} → Folded g start f i x → i ≤ n → n ≤ i → x ≡ fold g start f n
folded_all {g = g} {start = start} {f = f} u p q = u.eq ∙ reached (fold g start f) p q

pub fold_cong : {A : Type 0} (g : A → A → A) (start : A) (f h : ℕ → A) (n : ℕ) → ((i : ℕ) → i < n → f i ≡ h i) → fold g start f n ≡ fold g start h n
unfolding fold
fold_cong g start f h zero e = refl
fold_cong g start f h (suc n) e = ap₂ g (fold_cong g start f h n (λ i l. e i (omega arith))) (e n (le_refl _))

module _ {A : Type 0} (O : Ops A) where
  meet_fold : (n : ℕ) (f : ℕ → A) → fold O.meet O.top f n ≡ big_meet O n f
  unfolding fold big_meet
  meet_fold zero f = refl
  meet_fold (suc n) f = ap₂ O.meet (meet_fold n f) refl

  join_fold : (n : ℕ) (f : ℕ → A) → fold O.join O.bot f n ≡ big_join O n f
  unfolding fold big_join
  join_fold zero f = refl
  join_fold (suc n) f = ap₂ O.join (join_fold n f) refl

  pub folded_meet : {f : ℕ → A} {n i : ℕ} {x : A} → Folded O.meet O.top f i x → i ≤ n → n ≤ i → x ≡ big_meet O n f
  folded_meet {f} {n} u p q = folded_all u p q ∙ meet_fold n f

  pub folded_join : {f : ℕ → A} {n i : ℕ} {x : A} → Folded O.join O.bot f i x → i ≤ n → n ≤ i → x ≡ big_join O n f
  folded_join {f} {n} u p q = folded_all u p q ∙ join_fold n f

-- ---- a loop that counts

pub record Counted (f : ℕ → Bool) (n c : ℕ) : Type 0 where
  pub eq : c ≡ count n f
  pub most : c ≤ n

pub counted_none : {f : ℕ → Bool} → Counted f 0 0
counted_none {f} = record { eq = sym (count_none f); most = le_refl _ }

pub indicator_most : (b : Bool) → indicator b ≤ 1
indicator_most true = omega arith
indicator_most false = omega arith

-- no more than all are counted
pub count_most : (n : ℕ) (f : ℕ → Bool) → count n f ≤ n
unfolding count
count_most zero f = le_refl _
count_most (suc n) f = omega (arith, count_most n f, indicator_most (f n))

-- one turn, whose test gives b
pub counted_more : {f : ℕ → Bool} {n c d : ℕ} {b : Bool} → Counted f n c → b ≡ f n → d ≡ indicator b → Counted f (n + 1) (c + d)
counted_more {f} {n} {c} {d} {b} u t e = record { eq = rw (e, t, count_more n f, ← u.eq); most = omega (arith, u.most, indicator_most b) }

pub counted_all : {f : ℕ → Bool} {i n c : ℕ} → Counted f i c → i ≤ n → n ≤ i → Counted f n c
counted_all {i = i} {n = n} u p q = let e : i ≡ n = omega arith in rw e at u

pub count_cong : (n : ℕ) (f g : ℕ → Bool) → ((i : ℕ) → i < n → f i ≡ g i) → count n f ≡ count n g
unfolding count
count_cong zero f g h = refl
count_cong (suc n) f g h = ap₂ ◌+◌ (count_cong n f g (λ i l. h i (omega arith))) (ap indicator (h n (le_refl _)))

-- ---- a loop that tests, up to the first failure

pub record Passed (f : ℕ → Bool) (n : ℕ) : Type 0 where
  pub eq : all_below n f ≡ true

pub passed_none : {f : ℕ → Bool} → Passed f 0
passed_none {f} = record { eq = all_none f }

pub passed_more : {f : ℕ → Bool} {n : ℕ} → Passed f n → f n ≡ true → Passed f (n + 1)
passed_more {f} {n} u e = record { eq = all_more n f u.eq e }

pub passed_stop : {f : ℕ → Bool} {i n : ℕ} → Passed f i → i < n → f i ≡ false → false ≡ all_below n f
passed_stop {f} {i} {n} u l e = sym (all_fails n i f l e)

pub passed_all : {f : ℕ → Bool} {i n : ℕ} → Passed f i → i ≤ n → n ≤ i → true ≡ all_below n f
passed_all {f} {i} {n} u p q = sym (all_done n i f p q u.eq)

-- ---- a list by its rule: f i, f (i + 1), .., n of them

tab_from : (f : ℕ → ℕ) (n i k : ℕ) → k < n → get_or (tab f n i) k 0 ≡ f (i + k)
unfolding tab
tab_from f zero i k h = absurd (not-suc-le-zero h)
tab_from f (suc n) i zero h = ap f (sym (add-zero i))
tab_from f (suc n) i (suc k) h = tab_from f n (suc i) k (le_of_suc-le-suc h) ∙ ap f (suc-add i k ∙ sym (add-suc i k))

pub tab_at : (f : ℕ → ℕ) (n k : ℕ) → k < n → get_or (tab f n 0) k 0 ≡ f k
tab_at f n k h = tab_from f n 0 k h ∙ ap f (zero-add k)

pub tab-length : (f : ℕ → ℕ) (n i : ℕ) → length (tab f n i) ≡ n
unfolding tab
tab-length f zero i = refl
tab-length f (suc n) i = ap suc (tab-length f n (suc i))

tab_last : (f : ℕ → ℕ) (n i : ℕ) → tab f (suc n) i ≡ tab f n i ++ (f (i + n) ∷ [])
unfolding tab
tab_last f zero i = ap (λ (k : ℕ). f k ∷ []) (sym (add-zero i))
tab_last f (suc n) i = ap (λ (s : List ℕ). f i ∷ s) (tab_last f n (suc i) ∙ ap (λ (k : ℕ). tab f n (suc i) ++ (f k ∷ [])) (suc-add i n ∙ sym (add-suc i n)))

-- one entry more
pub tab_more : (f : ℕ → ℕ) (n : ℕ) → tab f (n + 1) 0 ≡ tab f n 0 ++ (f n ∷ [])
tab_more f n = rw add-one (tab_last f n 0 ∙ ap (λ (k : ℕ). tab f n 0 ++ (f k ∷ [])) (zero-add n))

-- ---- a loop that fills a list

pub filled_none : {f : ℕ → ℕ} {xs : List ℕ} → Filled f 0 xs
filled_none = record { at = λ k h. absurd (not-suc-le-zero h) }

pub filled_more : {f : ℕ → ℕ} {q v : ℕ} {xs : List ℕ} → Filled f q xs → q < length xs → v ≡ f q → Filled f (q + 1) (set xs q v)
filled_more {f} {q} {v} {xs} h l e = record {
  at = λ k b.
      ⊎_elim (λ (p : k ≡ q). rw p (get_or-set_same xs q v 0 l ∙ e))
      (λ (p : k < q). get_or-set_other xs q k v 0 (λ (z : k ≡ q). omega arith) ∙ h.at k p)
      (eq-or-lt_of_le (omega arith));
}

pub filled_all : {f : ℕ → ℕ} {n q : ℕ} {xs : List ℕ} → Filled f q xs → length xs ≡ n → n ≤ q → xs ≡ tab f n 0
filled_all {f} {n} {q} {xs} h l b =
    ext_get_or 0 xs (tab f n 0) (l ∙ sym (tab-length f n 0)) (λ k c. h.at k (omega arith) ∙ sym (tab_at f n k (omega arith)))

-- fewer entries, by a rule that says the same of them
pub filled_as : {f g : ℕ → ℕ} {k n : ℕ} {xs : List ℕ} → Filled f k xs → n ≤ k → ((i : ℕ) → i < n → f i ≡ g i) → Filled g n xs
filled_as h l e = record { at = λ i b. h.at i (omega arith) ∙ e i b }
