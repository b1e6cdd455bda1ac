-- Meets, joins, top and bottom found from an order: what they are, and that there is only one of each. Rests on theory's Part, Test and Loop,
-- Tests, DeMorgan.
--   element_lt, element_id, element_cong: any number read as an element; indicator-test: a test as a byte
--   all2_at, all2_in, all3_at, all3_in: tests of every two and every three, as facts
--   first_only, first_some: the only number that passes is the first
--   join-reversed, meet-reversed, bot-reversed: one order and the other way round
--   meet_out, meet_in_lem: the test of a meet, as a fact; meet_is: where there is a meet, it is found; meet_some, meet_unique: it exists, and is one
--   Antisymmetric: two elements at or below one another are the same
--   TopAt, top-only: a top, and that it is one; fold_up_to: the fold of an operation over the first numbers
use Rattle.std.specs.Prelude.{ℕ, ◌%◌, ◌≤◌, ◌<◌, ◌≡◌, refl, Bool, false, cond, ◌&&◌, ltb, eqb}
use Rattle.std.proofs.Common.{sym, arith, ltb-true, lt-ltb}
use Rattle.std.proofs.Math.Bool.{true}
use Rattle.theory.specs.Simulation.{indicator}
use Rattle.theory.specs.Loop.{fold}
use Rattle.theory.specs.Part.{LatticePart, is_meet, is_join, meet_of, join_of, top_of, bot_of, element}
use Rattle.theory.specs.Test.{all_below, first_below}
use Rattle.theory.specs.TestLaws.{and_l, and_r, and_in, ⇒-elim, ⇒-in, not_passed, false_true, all_at, all_in, first_is, first_unique}
use Rattle.lattice_order.specs.Tests.{all2, all3}
use Rattle.lattice_order.specs.DeMorgan.{reversed, MeetAt}

-- ---- a test as a byte

pub indicator-test : (t : Bool) → eqb (indicator t) 1 ≡ t
indicator-test true = refl
indicator-test false = refl

-- ---- a number as an element

pub element_lt : (n a : ℕ) → 0 < n → element n a < n
unfolding element
element_lt n a h = go (ltb (a % 64) n) refl
  where
    go : (t : Bool) → ltb (a % 64) n ≡ t → cond t (a % 64) 0 < n
    go true e = ltb-true _ _ e
    go false e = h

pub element_id : (n a : ℕ) → n ≤ 64 → a < n → element n a ≡ a
unfolding element
element_id n a m l = let e : a % 64 ≡ a = omega arith in rw (e, lt-ltb a n l)

pub element_cong : (n a b : ℕ) → a % 64 ≡ b % 64 → element n a ≡ element n b
unfolding element
element_cong n a b e = rw e

-- ---- tests over pairs and triples

pub all2_at : (n : ℕ) (f : ℕ → ℕ → Bool) → all2 n f ≡ true → (a b : ℕ) → a < n → b < n → f a b ≡ true
all2_at n f t a b l m = all_at n (f a) (all_at n _ t a l) b m

pub all2_in : (n : ℕ) (f : ℕ → ℕ → Bool) → ((a b : ℕ) → a < n → b < n → f a b ≡ true) → all2 n f ≡ true
all2_in n f h = all_in n _ (λ a l. all_in n _ (λ b m. h a b l m))

pub all3_at : (n : ℕ) (f : ℕ → ℕ → ℕ → Bool) → all3 n f ≡ true → (a b c : ℕ) → a < n → b < n → c < n → f a b c ≡ true
all3_at n f t a b c l m k = all_at n (f a b) (all2_at n (λ a b. all_below n (f a b)) t a b l m) c k

pub all3_in : (n : ℕ) (f : ℕ → ℕ → ℕ → Bool) → ((a b c : ℕ) → a < n → b < n → c < n → f a b c ≡ true) → all3 n f ≡ true
all3_in n f h = all2_in n _ (λ a b l m. all_in n _ (λ c k. h a b c l m k))

-- ---- the only number that passes is the first

pub first_only : (n : ℕ) (f : ℕ → Bool) (m : ℕ) → m < n → f m ≡ true → ((i : ℕ) → i < n → f i ≡ true → i ≡ m) → first_below n f ≡ m
first_only n f m l p u =
    sym (first_unique n f m (record {
      most = omega arith;
      passes = λ k. p;
      earlier = λ i k. not_passed (f i) (λ t. let e : i ≡ m = u i (omega arith) t in omega arith);
    }))

pub first_some : (n : ℕ) (f : ℕ → Bool) (m : ℕ) → m < n → f m ≡ true → first_below n f < n
first_some n f m l p = let x : ¬ (m < first_below n f) = λ k. false_true ((first_is n f).earlier m k) p in omega arith

-- ---- one order and the other way round

pub join-reversed : (P : LatticePart) (a b : ℕ) → join_of P a b ≡ meet_of (reversed P) a b
unfolding join_of meet_of is_join is_meet
join-reversed P a b = refl

pub meet-reversed : (P : LatticePart) (a b : ℕ) → meet_of P a b ≡ join_of (reversed P) a b
unfolding join_of meet_of is_join is_meet
meet-reversed P a b = refl

pub bot-reversed : (P : LatticePart) → bot_of P ≡ top_of (reversed P)
unfolding bot_of top_of
bot-reversed P = refl

-- ---- meets

-- two elements at or below one another are the same
pub record Antisymmetric (P : LatticePart) : Type 0 where
  pub same : (a b : ℕ) → a < P.size → b < P.size → P.order a b ≡ true → P.order b a ≡ true → a ≡ b

module _ (P : LatticePart) (a b m : ℕ) where
  pub meet_out : is_meet P a b m ≡ true → MeetAt P a b m
  unfolding is_meet
  meet_out t =
      let both : (P.order m a && P.order m b) ≡ true = and_l (P.order m a && P.order m b) _ t in
      record {
        left = and_l (P.order m a) _ both;
        right = and_r (P.order m a) _ both;
        greatest = λ c l p q. ⇒-elim (P.order c b) _ (⇒-elim (P.order c a) _ (all_at P.size _ (and_r (P.order m a && P.order m b) _ t) c l) p) q;
      }

  pub meet_in_lem : MeetAt P a b m → is_meet P a b m ≡ true
  unfolding is_meet
  meet_in_lem w =
      and_in _ _ (and_in _ _ w.left w.right) (all_in P.size _ (λ c l. ⇒-in (P.order c a) _ (λ p. ⇒-in (P.order c b) _ (w.greatest c l p))))

-- where there is a meet, it is found
pub meet_is : (P : LatticePart) (a b : ℕ) → meet_of P a b < P.size → MeetAt P a b (meet_of P a b)
unfolding meet_of
meet_is P a b l = meet_out P a b _ ((first_is P.size (is_meet P a b)).passes l)

pub meet_some : (P : LatticePart) (a b m : ℕ) → m < P.size → MeetAt P a b m → meet_of P a b < P.size
unfolding meet_of
meet_some P a b m l w = first_some P.size (is_meet P a b) m l (meet_in_lem P a b m w)

pub meet_unique : (P : LatticePart) (a b m k : ℕ) → Antisymmetric P → m < P.size → k < P.size → MeetAt P a b m → MeetAt P a b k → k ≡ m
meet_unique P a b m k s l j w v = s.same k m j l (w.greatest k j v.left v.right) (v.greatest m l w.left w.right)

-- ---- the top

pub record TopAt (P : LatticePart) (m : ℕ) : Type 0 where
  pub inside : m < P.size
  pub above : (c : ℕ) → c < P.size → P.order c m ≡ true

pub top-only : (P : LatticePart) (m : ℕ) → Antisymmetric P → TopAt P m → top_of P ≡ m
unfolding top_of
top-only P m s w =
    first_only P.size _ m w.inside (all_in P.size _ w.above)
    (λ i l t. s.same i m l w.inside (w.above i l) (all_at P.size _ t m w.inside))

-- f 0 1, f (f 0 1) 2, ..: the fold of f over all the numbers below k
abbrev pub fold_up_to : (ℕ → ℕ → ℕ) → ℕ → ℕ
fold_up_to f k = fold f 0 (λ i. i) k
