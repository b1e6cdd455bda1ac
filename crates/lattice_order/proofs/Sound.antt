-- The operations of a part that passes every test obey the laws of a distributive De Morgan lattice. Rests on theory's Lattice, Tests, Searched,
-- DeMorgan, Ordered.
-- The definitions are in specs/Sound.
--   laws_of: its operations obey the laws
--   id, dist_same, neg_same, neg_order: elements, distributivity and the complement's rules, as the tests give them
use Rattle.std.specs.Prelude.{ℕ, ◌<◌, ◌≡◌, true}
use Rattle.std.proofs.Common.{sym, ◌∙◌}
use borrow.Author.Tests.{ltb-true, lt-ltb, eqb-true}
use Rattle.std.proofs.Math.Dec.{eqb}
use Rattle.theory.specs.Test.{all_below}
use Rattle.theory.specs.TestLaws.{and_l, and_r, ⇒-elim, all_at}
use Rattle.theory.specs.Lattice.{Laws}
use Rattle.theory.proofs.Descent.{all_map}
use Rattle.theory.specs.Height.{distinct_le}
use Rattle.theory.specs.Part.{LatticePart, meet_of, join_of, top_of, bot_of, element, ops_of}
use Rattle.lattice_order.specs.Tests.{distributive, complement_rules}
use Rattle.lattice_order.specs.Searched.{element_lt, element_id, all2_at, all3_at, bot-reversed, TopAt}
use Rattle.lattice_order.specs.DeMorgan.{reversed, MeetAt}
use Rattle.lattice_order.specs.Ordered.{ordered-reversed, meets_and_joins-reversed, meet_at, join_at, top_is, top_found}
use Rattle.lattice_order.specs.Sound.{LatticeSound}

module _ (P : LatticePart) (s : LatticeSound P) where
  -- a number as an element
  abbrev e : ℕ → ℕ
  e = element P.size

  lt : (a : ℕ) → e a < P.size
  lt a = element_lt P.size a s.formed.some

  pub id : (a : ℕ) → a < P.size → e a ≡ a
  id a l = element_id P.size a s.formed.most l

  meet_e : (a b : ℕ) → e (meet_of P (e a) (e b)) ≡ meet_of P (e a) (e b)
  meet_e a b = id _ (s.meets_and_joins_lem.meet_lt _ _ (lt a) (lt b))

  join_e : (a b : ℕ) → e (join_of P (e a) (e b)) ≡ join_of P (e a) (e b)
  join_e a b = id _ (s.meets_and_joins_lem.join_lt _ _ (lt a) (lt b))

  neg_e : (a : ℕ) → e (P.complement (e a)) ≡ P.complement (e a)
  neg_e a = id _ (s.formed.inside _ (lt a))

  meets : (a b : ℕ) → MeetAt P (e a) (e b) (meet_of P (e a) (e b))
  meets a b = meet_at P s.meets_and_joins_lem (e a) (e b) (lt a) (lt b)

  joins : (a b : ℕ) → MeetAt (reversed P) (e a) (e b) (join_of P (e a) (e b))
  joins a b = join_at P s.meets_and_joins_lem (e a) (e b) (lt a) (lt b)

  pub dist_same : (a b c : ℕ) → meet_of P (e a) (join_of P (e b) (e c)) ≡ join_of P (meet_of P (e a) (e b)) (meet_of P (e a) (e c))
  unfolding distributive
  dist_same a b c = eqb-true _ _ (all3_at P.size _ s.distributes (e a) (e b) (e c) (lt a) (lt b) (lt c))

  pub neg_same : (a : ℕ) → P.complement (P.complement (e a)) ≡ e a
  unfolding complement_rules
  neg_same a = eqb-true _ _ (all_at P.size _ (and_l (all_below P.size (λ a. eqb (P.complement (P.complement a)) a)) _ s.complements) (e a) (lt a))

  pub neg_order : (a b : ℕ) → P.order (e a) (e b) ≡ true → P.order (P.complement (e b)) (P.complement (e a)) ≡ true
  unfolding complement_rules
  neg_order a b p = ⇒-elim (P.order (e a) (e b)) _ (all2_at P.size _ (and_r (all_below P.size (λ a. eqb (P.complement (P.complement a)) a)) _ s.complements) (e a) (e b) (lt a) (lt b)) p

  top_at : TopAt P (top_of P)
  top_at = rw (top_found P s.formed.some s.ordered s.meets_and_joins_lem) (top_is P s.formed.some s.ordered s.meets_and_joins_lem)

  bot_at : TopAt (reversed P) (bot_of P)
  bot_at =
      rw (bot-reversed P, top_found (reversed P) s.formed.some (ordered-reversed P s.ordered) (meets_and_joins-reversed P s.meets_and_joins_lem))
      (top_is (reversed P) s.formed.some (ordered-reversed P s.ordered) (meets_and_joins-reversed P s.meets_and_joins_lem))

  pub laws_of : Laws (ops_of P)
  laws_of =
      record {
        rfl = λ a. s.ordered.rfl (e a) (lt a);
        trans = λ {a} {b} {c} p q. s.ordered.trans (e a) (e b) (e c) (lt a) (lt b) (lt c) p q;
        antisym = λ {a} {b} l m p q.
            sym (id a (ltb-true _ _ l)) ∙ s.ordered.anti.same (e a) (e b) (lt a) (lt b) p q ∙ id b (ltb-true _ _ m);
        meet_l = λ a b. rw (meet_e a b) (meets a b).left;
        meet_r = λ a b. rw (meet_e a b) (meets a b).right;
        meet_glb = λ {a} {b} {c} p q. rw (meet_e a b) ((meets a b).greatest (e c) (lt c) p q);
        join_l = λ a b. rw (join_e a b) (joins a b).left;
        join_r = λ a b. rw (join_e a b) (joins a b).right;
        join_lub = λ {a} {b} {c} p q. rw (join_e a b) ((joins a b).greatest (e c) (lt c) p q);
        dist = λ a b c.
            rw (join_e b c, dist_same a b c, meet_e a b, meet_e a c)
            (s.ordered.rfl _ (lt _));
        neg_anti = λ {a} {b} p. rw (neg_e a, neg_e b) (neg_order a b p);
        neg_in = λ a. rw (neg_e a, neg_same a) (rw (id (e a) (lt a)) (s.ordered.rfl (e a) (lt a)));
        neg_out = λ a. rw (neg_e a, neg_same a) (rw (id (e a) (lt a)) (s.ordered.rfl (e a) (lt a)));
        top_max = λ a. rw (id _ top_at.inside) (top_at.above (e a) (lt a));
        bot_min = λ a. rw (id _ bot_at.inside) (bot_at.above (e a) (lt a));
        meet-element = λ a b. lt-ltb _ _ (s.meets_and_joins_lem.meet_lt _ _ (lt a) (lt b));
        join-element = λ a b. lt-ltb _ _ (s.meets_and_joins_lem.join_lt _ _ (lt a) (lt b));
        neg-element = λ a. lt-ltb _ _ (s.formed.inside _ (lt a));
        top-element = lt-ltb _ _ top_at.inside;
        bot-element = lt-ltb _ _ bot_at.inside;
        finite = λ l a d. distinct_le P.size l (all_map _ _ (λ x t. ltb-true _ _ t) l a) d;
      }
