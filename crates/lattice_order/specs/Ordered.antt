-- What the tests of an order say of its elements, and that an order with all meets and joins has a top and a bottom. Rests on theory's Part, Test
-- and Loop, Tests, Searched, DeMorgan.
--   Formed: 1 to 64 elements, and their complements are elements
--   Ordered: a partial order; ordered_out, ordered_in: from and to the test; ordered-reversed
--   MeetsJoinsFound: every two elements have a meet and a join; meets_and_joins_out, meets_and_joins_in, meets_and_joins-reversed
--   meet_at, join_at: what the meet and the join of two elements are
--   top_is, top_found, bot_found: top and bottom are the join and the meet of all
use Rattle.std.specs.Prelude.{ℕ, zero, suc, ◌≤◌, ◌<◌, ◌≡◌, true, ◌&&◌, ltb}
use Rattle.std.proofs.Common.{◌∙◌, le_refl, not-suc-le-zero, arith, ltb-true, lt-ltb, eqb-true, eq-eqb}
use Rattle.theory.specs.Loop.{fold}
use Rattle.theory.specs.Test.{◌⇒◌}
use Rattle.theory.specs.TestLaws.{below_suc, and_l, and_r, and_in, ⇒-elim, ⇒-in, all_at, all_in}
use Rattle.theory.specs.Part.{LatticePart, meet_of, join_of, top_of, bot_of}
use Rattle.lattice_order.specs.Tests.{all3, reflexive, antisymmetric, transitive, partial_order, meets_and_joins}
use Rattle.lattice_order.specs.Searched.{all2_at, all2_in, all3_at, all3_in, join-reversed, meet-reversed, bot-reversed, Antisymmetric, meet_is, TopAt, top-only, fold_up_to}
use Rattle.lattice_order.specs.DeMorgan.{reversed, MeetAt}

-- ---- the tests as facts

-- a part of the right form has 1 to 64 elements, and its complements are elements
pub record Formed (P : LatticePart) : Type 0 where
  pub some : 0 < P.size
  pub most : P.size ≤ 64
  pub inside : (a : ℕ) → a < P.size → P.complement a < P.size

-- a partial order
pub record Ordered (P : LatticePart) : Type 0 where
  pub rfl : (a : ℕ) → a < P.size → P.order a a ≡ true
  pub anti : Antisymmetric P
  pub trans : (a b c : ℕ) → a < P.size → b < P.size → c < P.size → P.order a b ≡ true → P.order b c ≡ true → P.order a c ≡ true

pub ordered_out : (P : LatticePart) → partial_order P.size P.order ≡ true → Ordered P
unfolding partial_order reflexive antisymmetric transitive
ordered_out P t =
    let tr : all3 P.size (λ a b c. P.order a b ⇒ P.order b c ⇒ P.order a c) ≡ true = and_r (reflexive P.size P.order && antisymmetric P.size P.order) _ t in
    let ra : (reflexive P.size P.order && antisymmetric P.size P.order) ≡ true = and_l (reflexive P.size P.order && antisymmetric P.size P.order) _ t in
    record {
      rfl = all_at P.size _ (and_l (reflexive P.size P.order) _ ra);
      anti = record { same = λ a b l m p q. eqb-true a b (⇒-elim (P.order b a) _ (⇒-elim (P.order a b) _ (all2_at P.size _ (and_r (reflexive P.size P.order) _ ra) a b l m) p) q) };
      trans = λ a b c l m k p q. ⇒-elim (P.order b c) _ (⇒-elim (P.order a b) _ (all3_at P.size _ tr a b c l m k) p) q;
    }

pub ordered_in : (P : LatticePart) → Ordered P → partial_order P.size P.order ≡ true
unfolding partial_order reflexive antisymmetric transitive
ordered_in P w =
    and_in _ _
    (and_in _ _ (all_in P.size _ w.rfl) (all2_in P.size _ (λ a b l m. ⇒-in (P.order a b) _ (λ p. ⇒-in (P.order b a) _ (λ q. eq-eqb a b (w.anti.same a b l m p q))))))
    (all3_in P.size _ (λ a b c l m k. ⇒-in (P.order a b) _ (λ p. ⇒-in (P.order b c) _ (w.trans a b c l m k p))))

-- every two elements have a meet and a join
pub record MeetsJoinsFound (P : LatticePart) : Type 0 where
  pub meet_lt : (a b : ℕ) → a < P.size → b < P.size → meet_of P a b < P.size
  pub join_lt : (a b : ℕ) → a < P.size → b < P.size → join_of P a b < P.size

pub meets_and_joins_out : (P : LatticePart) → meets_and_joins P ≡ true → MeetsJoinsFound P
unfolding meets_and_joins
meets_and_joins_out P t =
    record {
      meet_lt = λ a b l m. ltb-true _ _ (and_l (ltb (meet_of P a b) P.size) _ (all2_at P.size _ t a b l m));
      join_lt = λ a b l m. ltb-true _ _ (and_r (ltb (meet_of P a b) P.size) _ (all2_at P.size _ t a b l m));
    }

pub meets_and_joins_in : (P : LatticePart) → MeetsJoinsFound P → meets_and_joins P ≡ true
unfolding meets_and_joins
meets_and_joins_in P w = all2_in P.size _ (λ a b l m. and_in _ _ (lt-ltb _ _ (w.meet_lt a b l m)) (lt-ltb _ _ (w.join_lt a b l m)))

-- ---- the other way round

pub ordered-reversed : (P : LatticePart) → Ordered P → Ordered (reversed P)
ordered-reversed P w =
    record {
      rfl = w.rfl;
      anti = record { same = λ a b l m p q. w.anti.same a b l m q p };
      trans = λ a b c l m k p q. w.trans c b a k m l q p;
    }

pub meets_and_joins-reversed : (P : LatticePart) → MeetsJoinsFound P → MeetsJoinsFound (reversed P)
meets_and_joins-reversed P w =
    record {
      meet_lt = λ a b l m. rw (← join-reversed) (w.join_lt a b l m);
      join_lt = λ a b l m. rw (← meet-reversed) (w.meet_lt a b l m);
    }

-- what the meet and the join of two elements are
pub meet_at : (P : LatticePart) → MeetsJoinsFound P → (a b : ℕ) → a < P.size → b < P.size → MeetAt P a b (meet_of P a b)
meet_at P w a b l m = meet_is P a b (w.meet_lt a b l m)

pub join_at : (P : LatticePart) → MeetsJoinsFound P → (a b : ℕ) → a < P.size → b < P.size → MeetAt (reversed P) a b (join_of P a b)
join_at P w a b l m = rw join-reversed (meet_at (reversed P) (meets_and_joins-reversed P w) a b l m)

-- ---- there is a top: the join of all

-- m is an element at or above the first k
record AboveUpTo (P : LatticePart) (k m : ℕ) : Type 0 where
  inside : m < P.size
  above : (c : ℕ) → c < k → P.order c m ≡ true

above_up_to : (P : LatticePart) → 0 < P.size → Ordered P → MeetsJoinsFound P → (k : ℕ) → k ≤ P.size → AboveUpTo P k (fold_up_to (join_of P) k)
unfolding fold
above_up_to P s o w zero l = record { inside = s; above = λ c h. absurd (not-suc-le-zero h) }
above_up_to P s o w (suc k) l = go (above_up_to P s o w k (omega arith))
  where
    go : AboveUpTo P k (fold_up_to (join_of P) k) → AboveUpTo P (suc k) (join_of P (fold_up_to (join_of P) k) k)
    go v =
        let j = join_at P w (fold_up_to (join_of P) k) k v.inside l in
        let i = w.join_lt (fold_up_to (join_of P) k) k v.inside l in
        record {
          inside = i;
          above = below_suc {P = λ c. P.order c (join_of P (fold_up_to (join_of P) k) k) ≡ true}
              (λ c h. o.trans c _ _ (omega arith) v.inside i (v.above c h) j.left) j.right;
        }

pub top_is : (P : LatticePart) → 0 < P.size → Ordered P → MeetsJoinsFound P → TopAt P (fold_up_to (join_of P) P.size)
top_is P s o w = let v = above_up_to P s o w P.size (le_refl _) in record { inside = v.inside; above = v.above }

-- top and bottom are the join and the meet of all
pub top_found : (P : LatticePart) → 0 < P.size → Ordered P → MeetsJoinsFound P → top_of P ≡ fold_up_to (join_of P) P.size
top_found P s o w = top-only P _ o.anti (top_is P s o w)

pub bot_found : (P : LatticePart) → 0 < P.size → Ordered P → MeetsJoinsFound P → bot_of P ≡ fold_up_to (meet_of P) P.size
unfolding join_of meet_of Rattle.theory.specs.Part.is_join Rattle.theory.specs.Part.is_meet
bot_found P s o w = bot-reversed P ∙ top_found (reversed P) s (ordered-reversed P o) (meets_and_joins-reversed P w)
