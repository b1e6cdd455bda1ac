-- The parts that pass every test are exactly the distributive De Morgan lattices. Rests on theory's Lattice, Tests, Searched, DeMorgan, Ordered,
-- Sound.
-- The definitions are in specs/Exactly.
--   lattice_ordered, lattice_meets_and_joins, lattice_distributive, lattice_complements: such a lattice passes each test
--   sound_lattice: what passes is one
use Rattle.std.specs.Prelude.{ℕ, ◌<◌, ◌≡◌, true}
use Rattle.std.proofs.Common.{sym, ap, ◌∙◌}
use borrow.Author.Tests.{ltb-true, lt-ltb, eq-eqb}
use Rattle.theory.specs.TestLaws.{and_in, ⇒-in, all_in}
use Rattle.theory.specs.Lattice.{Ops, Laws}
use Rattle.theory.specs.Part.{LatticePart, meet_of, join_of}
use Rattle.lattice_order.specs.Tests.{distributive, complement_rules}
use Rattle.lattice_order.specs.Searched.{all2_in, all3_in, join-reversed, meet_some, meet_unique}
use Rattle.lattice_order.specs.DeMorgan.{reversed, MeetAt, DeMorganLattice}
use Rattle.lattice_order.specs.Ordered.{Ordered, MeetsJoinsFound, ordered-reversed, meet_at, join_at}
use Rattle.lattice_order.specs.Sound.{LatticeSound}
use Rattle.lattice_order.proofs.Sound.{id, dist_same, neg_same, neg_order}
use Rattle.lattice_order.specs.Exactly.{SameLattice}

-- ---- a distributive De Morgan lattice passes

module _ (P : LatticePart) (D : DeMorganLattice P) where
  pub lattice_ordered : Ordered P
  lattice_ordered = record { rfl = D.rfl; anti = record { same = D.antisym }; trans = D.trans }

  pub lattice_meets_and_joins : MeetsJoinsFound P
  lattice_meets_and_joins =
      record {
        meet_lt = λ a b l m. meet_some P a b _ (D.meet_lt a b l m) (D.meet_is a b l m);
        join_lt = λ a b l m. rw join-reversed (meet_some (reversed P) a b _ (D.join_lt a b l m) (D.join_is a b l m));
      }

  same_meet : (a b : ℕ) → a < P.size → b < P.size → meet_of P a b ≡ D.meet a b
  same_meet a b l m =
      meet_unique P a b _ _ lattice_ordered.anti (D.meet_lt a b l m) (lattice_meets_and_joins.meet_lt a b l m) (D.meet_is a b l m) (meet_at P lattice_meets_and_joins a b l m)

  same_join : (a b : ℕ) → a < P.size → b < P.size → join_of P a b ≡ D.join a b
  same_join a b l m =
      meet_unique (reversed P) a b _ _ (ordered-reversed P lattice_ordered).anti (D.join_lt a b l m) (lattice_meets_and_joins.join_lt a b l m) (D.join_is a b l m)
      (join_at P lattice_meets_and_joins a b l m)

  pub lattice_distributive : distributive P.size (meet_of P) (join_of P) ≡ true
  unfolding distributive
  lattice_distributive =
      all3_in P.size _ (λ a b c l m k.
      eq-eqb (meet_of P a (join_of P b c)) (join_of P (meet_of P a b) (meet_of P a c))
      (rw (same_join b c m k, same_meet a b l m, same_meet a c l k)
      (rw (same_meet a _ l (D.join_lt b c m k), same_join _ _ (D.meet_lt a b l m) (D.meet_lt a c l k))
      (D.dist a b c l m k))))

  pub lattice_complements : complement_rules P.size P.order P.complement ≡ true
  unfolding complement_rules
  lattice_complements =
      and_in _ _
      (all_in P.size _ (λ a l. eq-eqb _ _ (D.involution a l)))
      (all2_in P.size _ (λ a b l m. ⇒-in (P.order a b) _ (D.antitone a b l m)))

-- ---- what passes is one

-- what the tests say of the elements themselves
pub sound_lattice : (P : LatticePart) → LatticeSound P → DeMorganLattice P
sound_lattice P s =
    record {
      rfl = s.ordered.rfl;
      antisym = s.ordered.anti.same;
      trans = s.ordered.trans;
      meet = meet_of P;
      meet_lt = s.meets_and_joins_lem.meet_lt;
      meet_is = meet_at P s.meets_and_joins_lem;
      join = join_of P;
      join_lt = s.meets_and_joins_lem.join_lt;
      join_is = join_at P s.meets_and_joins_lem;
      dist = λ a b c l m k. rw (id P s a l, id P s b m, id P s c k) at (dist_same P s a b c);
      complement_lt = s.formed.inside;
      involution = λ a l. rw (id P s a l) at (neg_same P s a);
      antitone = λ a b l m p. rw (id P s a l, id P s b m) at (neg_order P s a b (rw (id P s a l, id P s b m) p));
    }

-- ---- from operations that obey the laws for all numbers

module _ (P : LatticePart) (O : Ops ℕ) (L : Laws O) (w : SameLattice P O) where
  open L use {rfl, trans, antisym, meet_l, meet_r, meet_glb, join_l, join_r, join_lub, dist, neg_anti, neg_in, neg_out, meet-element, join-element, neg-element}

  is_element : (a : ℕ) → a < P.size → O.is_element a ≡ true
  is_element a l = w.elements a ∙ lt-ltb _ _ l

  is_below : (a : ℕ) → O.is_element a ≡ true → a < P.size
  is_below a t = ltb-true _ _ (sym (w.elements a) ∙ t)

  to : (a b : ℕ) → a < P.size → b < P.size → P.order a b ≡ true → O.at_most a b ≡ true
  to a b l m p = w.orders a b l m ∙ p

  from : (a b : ℕ) → a < P.size → b < P.size → O.at_most a b ≡ true → P.order a b ≡ true
  from a b l m p = sym (w.orders a b l m) ∙ p

  same_ordered : Ordered P
  same_ordered =
      record {
        rfl = λ a l. from a a l l (rfl a);
        anti = record { same = λ a b l m p q. antisym (is_element a l) (is_element b m) (to a b l m p) (to b a m l q) };
        trans = λ a b c l m k p q. from a c l k (trans (to a b l m p) (to b c m k q));
      }

  meet_below : (a b : ℕ) → O.meet a b < P.size
  meet_below a b = is_below _ (meet-element a b)

  join-below : (a b : ℕ) → O.join a b < P.size
  join-below a b = is_below _ (join-element a b)

  same_meet_at : (a b : ℕ) → a < P.size → b < P.size → MeetAt P a b (O.meet a b)
  same_meet_at a b l m =
      record {
        left = from _ a (meet_below a b) l (meet_l a b);
        right = from _ b (meet_below a b) m (meet_r a b);
        greatest = λ c k p q. from c _ k (meet_below a b) (meet_glb (to c a k l p) (to c b k m q));
      }

  same_join_at : (a b : ℕ) → a < P.size → b < P.size → MeetAt (reversed P) a b (O.join a b)
  same_join_at a b l m =
      record {
        left = from a _ l (join-below a b) (join_l a b);
        right = from b _ m (join-below a b) (join_r a b);
        greatest = λ c k p q. from _ c (join-below a b) k (join_lub (to a c l k p) (to b c m k q));
      }

  neg-below : (a : ℕ) → a < P.size → P.complement a < P.size
  neg-below a l = rw (← w.complements a l) (is_below _ (neg-element a))

  pub ops_lattice : DeMorganLattice P
  ops_lattice =
      record {
        rfl = same_ordered.rfl;
        antisym = same_ordered.anti.same;
        trans = same_ordered.trans;
        meet = O.meet;
        meet_lt = λ a b l m. meet_below a b;
        meet_is = same_meet_at;
        join = O.join;
        join_lt = λ a b l m. join-below a b;
        join_is = same_join_at;
        dist = λ a b c l m k.
            antisym (meet-element _ _) (join-element _ _) (dist a b c)
            (join_lub (meet_glb (meet_l _ _) (trans (meet_r _ _) (join_l _ _))) (meet_glb (meet_l _ _) (trans (meet_r _ _) (join_r _ _))));
        complement_lt = neg-below;
        involution = λ a l.
            sym (w.complements _ (neg-below a l)) ∙ ap O.neg (sym (w.complements a l)) ∙ antisym (neg-element _) (is_element a l) (neg_out a) (neg_in a);
        antitone = λ a b l m p. from _ _ (neg-below b m) (neg-below a l) (rw (← w.complements a l, ← w.complements b m) (neg_anti (to a b l m p)));
      }
