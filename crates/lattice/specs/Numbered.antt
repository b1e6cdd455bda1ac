-- Which of the refusals 4 to 8 a lattice part is given. Rests on lattice_order's Ordered and Searched, refusal's First, Reading, Conditions.
--   explicit_out: the form test of an explicit part, as facts; panel_is: a panel part is the one byte 0
--   form_exactly, ordered_exactly, meets_and_joins_exactly, distributive_exactly, complements_exactly: each test says what its statement says
--   lattice_refused: each refusal is given exactly when the part breaks what it asks and nothing earlier, and no other is given
use Rattle.std.specs.Prelude.{ℕ, ◌+◌, ◌*◌, ◌≤◌, ◌<◌, ◌≡◌, refl, true, false, ◌&&◌, ◌||◌, ◌↔◌, List, [], ◌∷◌, ltb, leb, length, get_or}
use Rattle.std.proofs.Common.{ap, inl, inr, ⊎_elim, arith}
use Rattle.std.proofs.Math.Bool.{Bool}
use borrow.Author.Tests.{ltb-true, leb-true, eqb-true, eq-eqb, lt-ltb, le-leb}
use Rattle.std.proofs.Math.Dec.{eqb}
use Rattle.theory.specs.Part.{LatticePart, meet_of, join_of}
use Rattle.theory.specs.Test.{all_below}
use Rattle.theory.specs.TestLaws.{and_l, and_r, and_in, ⇒-elim, ⇒-in, all_at, all_in}
use Rattle.refusal.specs.declared.Refusal.{Refusal}
use Rattle.refusal.specs.declared.Refusal.TheVariants.{LatticeForm, NoPartialOrder, NoMeetOrJoin, NotDistributive, BadComplement}
use Rattle.refusal.specs.Number.{number_of}
use Rattle.refusal.specs.First.{first_here, first_later, first_never}
use Rattle.lattice_order.specs.Searched.{all2_at, all2_in, all3_at, all3_in, join-reversed, meet_some}
use Rattle.lattice_order.specs.DeMorgan.{reversed}
use Rattle.lattice_order.specs.Ordered.{ordered_out, ordered_in, meets_and_joins_out, meets_and_joins_in, meet_at, join_at}
use Rattle.lattice.specs.Reading.{LatticeReading, refused, accepted, is_panel, lattice_of, explicit_form, lattice_form, partial_order, meets_and_joins, distributive, complement_rules, require, part_reading, lattice_reading}
use Rattle.lattice.specs.Conditions.{ExplicitForm, HasForm, Ordered, MeetsAndJoins, Distributive, ComplementRules, LatticeRefused}

-- ---- refusal 4

-- the form test of an explicit part, as facts
pub explicit_out : (n : ℕ) (b : List ℕ) → explicit_form n b ≡ true → ExplicitForm n b
unfolding explicit_form
explicit_out n b t4 =
    let t3 = and_l (leb 1 n && leb n 64 && eqb (length b) (1 + n + n * n) && all_below n (λ i. ltb (get_or b (1 + i) 0) n)) _ t4 in
    let t2 = and_l (leb 1 n && leb n 64 && eqb (length b) (1 + n + n * n)) _ t3 in
    let t1 = and_l (leb 1 n && leb n 64) _ t2 in
    record {
      some = leb-true 1 n (and_l (leb 1 n) _ t1);
      most = leb-true n 64 (and_r (leb 1 n) _ t1);
      exact = eqb-true _ _ (and_r (leb 1 n && leb n 64) _ t2);
      complements = λ i l. ltb-true _ _ (all_at n _ (and_r (leb 1 n && leb n 64 && eqb (length b) (1 + n + n * n)) _ t3) i l);
      orders = λ i l. ltb-true _ _ (all_at (n * n) _ (and_r (leb 1 n && leb n 64 && eqb (length b) (1 + n + n * n) && all_below n (λ i. ltb (get_or b (1 + i) 0) n)) _ t4) i l);
    }

explicit_in : (n : ℕ) (b : List ℕ) → ExplicitForm n b → explicit_form n b ≡ true
unfolding explicit_form
explicit_in n b w =
    and_in _ _
    (and_in _ _ (and_in _ _ (and_in _ _ (le-leb 1 n w.some) (le-leb n 64 w.most)) (eq-eqb _ _ w.exact)) (all_in n _ (λ i l. lt-ltb _ _ (w.complements i l))))
    (all_in (n * n) _ (λ i l. lt-ltb _ _ (w.orders i l)))

pub panel_is : (b : List ℕ) → is_panel b ≡ true → b ≡ 0 ∷ []
unfolding is_panel
panel_is [] t = cc
panel_is (a ∷ []) t = ap (λ (x : ℕ). x ∷ []) (eqb-true a 0 t)
panel_is (a ∷ c ∷ b) t = absurd (omega (arith, eqb-true (length (a ∷ c ∷ b)) 1 (and_l (eqb (length (a ∷ c ∷ b)) 1) (eqb a 0) t)))

pub form_exactly : (b : List ℕ) → (lattice_form b ≡ true) ↔ HasForm b
unfolding lattice_form is_panel
form_exactly b = (
  λ t. there (is_panel b) refl t,
  λ w. ⊎_elim (λ (e : b ≡ 0 ∷ []). rw e) (λ (x : ExplicitForm (get_or b 0 0) b). either (is_panel b) (explicit_in _ b x)) w,
)
  where
    there : (p : Bool) → is_panel b ≡ p → (p || explicit_form (get_or b 0 0) b) ≡ true → HasForm b
    there true e t = inl (panel_is b e)
    there false e t = inr (explicit_out _ b t)

    either : (p : Bool) → explicit_form (get_or b 0 0) b ≡ true → (p || explicit_form (get_or b 0 0) b) ≡ true
    either true t = refl
    either false t = t

-- ---- refusals 5 to 8

module _ (P : LatticePart) where
  pub ordered_exactly : (partial_order P.size P.order ≡ true) ↔ Ordered P
  ordered_exactly = (ordered_out P, ordered_in P)

  pub meets_and_joins_exactly : (meets_and_joins P ≡ true) ↔ MeetsAndJoins P
  meets_and_joins_exactly = (there, back)
    where
      there : meets_and_joins P ≡ true → MeetsAndJoins P
      there t =
          let w = meets_and_joins_out P t in
          record {
            meet = λ a b l m. (meet_of P a b, w.meet_lt a b l m, meet_at P w a b l m);
            join = λ a b l m. (join_of P a b, w.join_lt a b l m, join_at P w a b l m);
          }

      back : MeetsAndJoins P → meets_and_joins P ≡ true
      back w =
          meets_and_joins_in P
          (record {
            meet_lt = λ a b l m. let x = w.meet a b l m in meet_some P a b x.0 x.1 x.2;
            join_lt = λ a b l m. let x = w.join a b l m in rw join-reversed (meet_some (reversed P) a b x.0 x.1 x.2);
          })

  pub distributive_exactly : (distributive P.size (meet_of P) (join_of P) ≡ true) ↔ Distributive P
  unfolding distributive
  distributive_exactly = (
    λ t. record { dist = λ a b c l m k. eqb-true _ _ (all3_at P.size _ t a b c l m k) },
    λ w. all3_in P.size _ (λ a b c l m k. eq-eqb _ _ (w.dist a b c l m k)),
  )

  pub complements_exactly : (complement_rules P.size P.order P.complement ≡ true) ↔ ComplementRules P
  unfolding complement_rules
  complements_exactly = (there, back)
    where
      twice : Bool
      twice = all_below P.size (λ a. eqb (P.complement (P.complement a)) a)

      there : complement_rules P.size P.order P.complement ≡ true → ComplementRules P
      there t =
          record {
            involution = λ a l. eqb-true _ _ (all_at P.size _ (and_l twice _ t) a l);
            antitone = λ a b l m p. ⇒-elim (P.order a b) _ (all2_at P.size _ (and_r twice _ t) a b l m) p;
          }

      back : ComplementRules P → complement_rules P.size P.order P.complement ≡ true
      back w =
          and_in _ _ (all_in P.size _ (λ a l. eq-eqb _ _ (w.involution a l)))
          (all2_in P.size _ (λ a b l m. ⇒-in (P.order a b) _ (w.antitone a b l m)))

-- ---- the first that applies

-- different refusals, and no refusal where the part is accepted
differ : (f r : Refusal) → ¬ (number_of f ≡ number_of r) → refused f ≡ refused r → ⊥
differ f r n e = let q : f ≡ r = cc in n (ap number_of q)

not_accepted : {P : LatticePart} {r : Refusal} → accepted P ≡ refused r → ⊥
not_accepted e = let z : ◌≡◌ {A = ℕ} 0 1 = cc in omega arith

-- the numbers of these refusals
abbrev Numbered : Refusal → Type 0
Numbered r = (4 ≤ number_of r) × (number_of r ≤ 8)

require-number : (t : Bool) (f : Refusal) {next : LatticeReading} (r : Refusal) → Numbered f → (next ≡ refused r → Numbered r)
    → require t f next ≡ refused r → Numbered r
unfolding require
require-number true f r n g e = g e
require-number false f r n g e = let q : f ≡ r = cc in rw q at n

module _ (b : List ℕ) where
  abbrev P : LatticePart
  P = lattice_of b

  -- the tests of refusals 5 to 8, and what is found from each test on
  abbrev test5 : Bool
  test5 = partial_order P.size P.order

  abbrev test7 : Bool
  test7 = distributive P.size (meet_of P) (join_of P)

  abbrev test8 : Bool
  test8 = complement_rules P.size P.order P.complement

  abbrev from8 : LatticeReading
  from8 = require test8 BadComplement (accepted P)

  abbrev from7 : LatticeReading
  from7 = require test7 NotDistributive from8

  abbrev from6 : LatticeReading
  from6 = require (meets_and_joins P) NoMeetOrJoin from7

  abbrev from5 : LatticeReading
  from5 = require test5 NoPartialOrder from6

  module _ (r : Refusal) where
    -- no refusal of a smaller number is given later
    never8 : number_of r < 8 → from8 ≡ refused r → ⊥
    unfolding require
    never8 l = first_never test8 (differ BadComplement r (λ e. omega arith)) not_accepted

    never7 : number_of r < 7 → from7 ≡ refused r → ⊥
    unfolding require
    never7 l = first_never test7 (differ NotDistributive r (λ e. omega arith)) (never8 (omega arith))

    never6 : number_of r < 6 → from6 ≡ refused r → ⊥
    unfolding require
    never6 l = first_never (meets_and_joins P) (differ NoMeetOrJoin r (λ e. omega arith)) (never7 (omega arith))

    never5 : number_of r < 5 → from5 ≡ refused r → ⊥
    unfolding require
    never5 l = first_never test5 (differ NoPartialOrder r (λ e. omega arith)) (never6 (omega arith))

    -- a refusal of a greater number is given where the test is passed
    after4 : {X : Type 0} → 4 < number_of r → (from5 ≡ refused r) ↔ X → (lattice_reading b ≡ refused r) ↔ (HasForm b × X)
    unfolding lattice_reading part_reading require
    after4 l = first_later (lattice_form b) (form_exactly b) (differ LatticeForm r (λ e. omega arith))

    after5 : {X : Type 0} → 5 < number_of r → (from6 ≡ refused r) ↔ X → (from5 ≡ refused r) ↔ (Ordered P × X)
    unfolding require
    after5 l = first_later test5 (ordered_exactly P) (differ NoPartialOrder r (λ e. omega arith))

    after6 : {X : Type 0} → 6 < number_of r → (from7 ≡ refused r) ↔ X → (from6 ≡ refused r) ↔ (MeetsAndJoins P × X)
    unfolding require
    after6 l = first_later (meets_and_joins P) (meets_and_joins_exactly P) (differ NoMeetOrJoin r (λ e. omega arith))

    after7 : {X : Type 0} → 7 < number_of r → (from8 ≡ refused r) ↔ X → (from7 ≡ refused r) ↔ (Distributive P × X)
    unfolding require
    after7 l = first_later test7 (distributive_exactly P) (differ NotDistributive r (λ e. omega arith))

  pub lattice_refused : LatticeRefused b
  unfolding lattice_reading part_reading require
  lattice_refused =
      record {
        at_4 = first_here (lattice_form b) (form_exactly b) (never5 LatticeForm (omega arith));
        at_5 = after4 _ (omega arith) (first_here test5 (ordered_exactly P) (never6 NoPartialOrder (omega arith)));
        at_6 = after4 _ (omega arith) (after5 _ (omega arith) (first_here (meets_and_joins P) (meets_and_joins_exactly P) (never7 NoMeetOrJoin (omega arith))));
        at_7 =
            after4 _ (omega arith) (after5 _ (omega arith) (after6 _ (omega arith)
            (first_here test7 (distributive_exactly P) (never8 NotDistributive (omega arith)))));
        at_8 =
            after4 _ (omega arith) (after5 _ (omega arith) (after6 _ (omega arith) (after7 _ (omega arith)
            (first_here test8 (complements_exactly P) not_accepted))));
        only = λ r.
            require-number (lattice_form b) LatticeForm r (omega arith)
            (require-number test5 NoPartialOrder r (omega arith)
            (require-number (meets_and_joins P) NoMeetOrJoin r (omega arith)
            (require-number test7 NotDistributive r (omega arith)
            (require-number test8 BadComplement r (omega arith) (λ e. absurd (not_accepted e))))));
      }
