-- The test of refusal 6 by words: in a partial order with a top, where every & of two words is a word, every two elements have a meet, and so a
-- join, the meet of all elements at or above both. Rests on lattice_order's Ordered and Searched, elements' Bits, Tests, Order.
--   Meets: every two elements have a meet; meet_word, word_meet: the word of a meet, and that only a meet has it
--   closed_at, meets-closed: from and to the test; top_from, top_word: the word of a top
--   meets_and_joins_exactly: the test on the words is that of the order
use Rattle.std.specs.Prelude.{ℕ, zero, suc, ◌^◌, ◌≤◌, ◌<◌, ◌≡◌, refl, Bool, true, false, ◌&&◌}
use Rattle.std.proofs.Common.{sym, ◌∙◌, le_refl, not-suc-le-zero, arith, eqb-true, eq-eqb}
use Rattle.std.specs.Int.Bits.{bit_and}
use Rattle.std.proofs.Math.Dec.{eqb}
use Rattle.theory.specs.Part.{LatticePart, meet_of, join_of}
use Rattle.theory.specs.TestLaws.{below_suc, bool_same, and_l, and_r, and_in, ⇒-elim, ⇒-in, false_true}
use Rattle.lattice_order.specs.Tests.{meets_and_joins}
use Rattle.lattice_order.specs.Searched.{all2_at, all2_in, join-reversed, meet_some, fold_up_to, TopAt}
use Rattle.lattice_order.specs.DeMorgan.{reversed, MeetAt}
use Rattle.lattice_order.specs.Ordered.{Ordered, MeetsJoinsFound, meets_and_joins_in, meets_and_joins_out, meet_at, top_is}
use Rattle.elements.specs.Bits.{bits_cong, bits_same, bits_and, bits_at}
use Rattle.elements.specs.Words.{within}
use Rattle.lattice_codes.specs.Tests.{any_in, any_out, down_of, all_of, is_word, pair_closed, closed, meets_and_joins_test}

-- every two elements have a meet
pub record Meets (P : LatticePart) : Type 0 where
  pub meet : ℕ → ℕ → ℕ
  pub lt : (a b : ℕ) → a < P.size → b < P.size → meet a b < P.size
  pub at : (a b : ℕ) → a < P.size → b < P.size → MeetAt P a b (meet a b)

pub meets_and_joins-meets : (P : LatticePart) → MeetsJoinsFound P → Meets P
meets_and_joins-meets P w = record { meet = meet_of P; lt = w.meet_lt; at = meet_at P w }

module _ (P : LatticePart) (o : Ordered P) where
  -- ---- meets

  -- the word of a meet is the & of the words, and only a meet has it
  pub meet_word : (a b m : ℕ) → a < P.size → b < P.size → m < P.size → MeetAt P a b m → down_of P m ≡ bit_and (down_of P a) (down_of P b)
  meet_word a b m l k j w =
      bits_cong P.size _ _ (λ i h. bool_same _ _
      (λ t. and_in _ _ (o.trans i m a h j l t w.left) (o.trans i m b h j k t w.right))
      (λ t. w.greatest i h (and_l (P.order i a) _ t) (and_r (P.order i a) _ t)))
      ∙ bits_and P.size (λ i. P.order i a) (λ i. P.order i b)

  pub word_meet : (a b m : ℕ) → m < P.size → down_of P m ≡ bit_and (down_of P a) (down_of P b) → MeetAt P a b m
  word_meet a b m j e =
      let f : (i : ℕ) → i < P.size → P.order i m ≡ (P.order i a && P.order i b) =
      bits_same P.size (λ i. P.order i m) (λ i. P.order i a && P.order i b) (e ∙ sym (bits_and P.size (λ i. P.order i a) (λ i. P.order i b))) in
      let s = sym (f m j) ∙ o.rfl m j in
      record {
        left = and_l (P.order m a) _ s;
        right = and_r (P.order m a) _ s;
        greatest = λ i h t u. f i h ∙ and_in _ _ t u;
      }

  pub closed_at : closed P.size (down_of P) (all_of P.size) false ≡ true → (a b : ℕ) → a < P.size → b < P.size → (m : ℕ) × (m < P.size) × MeetAt P a b m
  unfolding closed pair_closed is_word
  closed_at t a b l k =
      let v = ⇒-elim (within (2 ^ a) (all_of P.size)) _ (all2_at P.size (pair_closed P.size (down_of P) (all_of P.size) false) t a b l k) (bits_at P.size (λ i. true) a l) in
      let w = any_out P.size (λ c. eqb (down_of P c) (bit_and (down_of P a) (down_of P b))) v in
      (w.number, w.below, word_meet a b w.number w.below (eqb-true _ _ w.passed))

  pub meets-closed : Meets P → closed P.size (down_of P) (all_of P.size) false ≡ true
  unfolding closed pair_closed is_word
  meets-closed w =
      all2_in P.size (pair_closed P.size (down_of P) (all_of P.size) false) (λ a b l k.
      ⇒-in (within (2 ^ a) (all_of P.size)) _ (λ t.
      any_in P.size (λ c. eqb (down_of P c) (bit_and (down_of P a) (down_of P b))) (w.meet a b) (w.lt a b l k)
      (eq-eqb _ _ (meet_word a b (w.meet a b) l k (w.lt a b l k) (w.at a b l k)))))

  -- ---- the top

  pub top_from : (m : ℕ) → m < P.size → down_of P m ≡ all_of P.size → TopAt P m
  top_from m l e = record { inside = l; above = bits_same P.size (λ i. P.order i m) (λ i. true) e }

  pub top_word : (m : ℕ) → TopAt P m → down_of P m ≡ all_of P.size
  top_word m w = bits_cong P.size _ _ w.above

  -- ---- joins, from meets and a top

  -- m is at or above a and b, and at or below the first k elements that are
  record JoinUpTo (a b k m : ℕ) : Type 0 where
    inside : m < P.size
    left : P.order a m ≡ true
    right : P.order b m ≡ true
    least : (c : ℕ) → c < k → P.order a c ≡ true → P.order b c ≡ true → P.order m c ≡ true

  module _ (meets : (a b : ℕ) → a < P.size → b < P.size → (m : ℕ) × (m < P.size) × MeetAt P a b m) (top : ℕ) (above : TopAt P top) (a b : ℕ) (l : a < P.size) (j : b < P.size) where
    join_up_to : (k : ℕ) → k ≤ P.size → (m : ℕ) × JoinUpTo a b k m
    join_up_to zero h = (top, record { inside = above.inside; left = above.above a l; right = above.above b j; least = λ c z. absurd (not-suc-le-zero z) })
    join_up_to (suc k) h = go (join_up_to k (omega arith)) (P.order a k && P.order b k) refl
      where
        go : (m : ℕ) × JoinUpTo a b k m → (x : Bool) → (P.order a k && P.order b k) ≡ x → (m : ℕ) × JoinUpTo a b (suc k) m
        go (m, w) false e = (
          m,
          record {
            inside = w.inside;
            left = w.left;
            right = w.right;
            least = below_suc {P = λ c. P.order a c ≡ true → P.order b c ≡ true → P.order m c ≡ true} w.least (λ s t. absurd (false_true e (and_in _ _ s t)));
          },
        )
        go (m, w) true e =
            let v = meets m k w.inside h in
            let x = v.2 in
            let s : P.order a k ≡ true = and_l (P.order a k) _ e in
            let t : P.order b k ≡ true = and_r (P.order a k) _ e in (
              v.0,
              record {
                inside = v.1;
                left = x.greatest a l w.left s;
                right = x.greatest b j w.right t;
                least = below_suc {P = λ c. P.order a c ≡ true → P.order b c ≡ true → P.order v.0 c ≡ true} (λ c z p q. o.trans _ m c v.1 w.inside (omega arith) x.left (w.least c z p q)) (λ p q. x.right);
              },
            )

    join-from : (m : ℕ) × (m < P.size) × MeetAt (reversed P) a b m
    join-from =
        let v = join_up_to P.size (le_refl _) in
        (v.0, v.1.inside, record { left = v.1.left; right = v.1.right; greatest = v.1.least })

  -- ---- both

  meets_and_joins-sound : closed P.size (down_of P) (all_of P.size) false ≡ true → is_word P.size (down_of P) (all_of P.size) ≡ true → MeetsJoinsFound P
  unfolding is_word
  meets_and_joins-sound t u =
      let v = any_out P.size (λ c. eqb (down_of P c) (all_of P.size)) u in
      let w = closed_at t in
      record {
        meet_lt = λ a b l k. let m = w a b l k in meet_some P a b m.0 m.1 m.2;
        join_lt = λ a b l k. let m = join-from w v.number (top_from v.number v.below (eqb-true _ _ v.passed)) a b l k in rw join-reversed (meet_some (reversed P) a b m.0 m.1 m.2);
      }

  pub meets_and_joins-top : 0 < P.size → MeetsJoinsFound P → is_word P.size (down_of P) (all_of P.size) ≡ true
  unfolding is_word
  meets_and_joins-top s w =
      let v = top_is P s o w in
      any_in P.size (λ c. eqb (down_of P c) (all_of P.size)) (fold_up_to (join_of P) P.size) v.inside (eq-eqb _ _ (top_word _ v))

  pub meets_and_joins_exactly : 0 < P.size → meets_and_joins_test P ≡ meets_and_joins P
  meets_and_joins_exactly s =
      bool_same _ _
      (λ t. meets_and_joins_in P (meets_and_joins-sound (and_l (closed P.size (down_of P) (all_of P.size) false) _ t) (and_r (closed P.size (down_of P) (all_of P.size) false) _ t)))
      (λ t. let w = meets_and_joins_out P t in and_in _ _ (meets-closed (meets_and_joins-meets P w)) (meets_and_joins-top s w))
