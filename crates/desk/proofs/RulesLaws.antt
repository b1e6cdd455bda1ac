-- The tests of refusals 11, 12 and those after 12 say what their rules say. Rests on Refused and casefile's Reading.
-- The definitions are in specs/RulesLaws.
--   rules_out, rules_in, spoiled_exactly: the rules of 12, of a content and of the store
--   condition_exactly: the conditions after 12, one by one; holding_exactly, range_exactly: no refusal is given exactly when all of them hold
--   broken_exactly: a refusal is given exactly when it is that of the first broken one; refusal_one: it is one of theirs, above 12
--   same_refusal_exactly: where all give the same refusal, their order does not show
--   zeros-spoiled: a desk of zeros gets 12
use Rattle.std.specs.Prelude.{ℕ, ◌-◌, ◌<◌, ◌≡◌, refl, Bool, true, false, cond, not, ◌&&◌, ◌||◌, ◌↔◌, ◌⊎◌, List, [], ◌∷◌, ltb, leb, eqb, length, get_or, take}
use Rattle.std.proofs.Common.{sym, ap, ◌∙◌, inl, inr, ⊎_elim, arith, lt-ltb, ltb-true, ltb-false, le-ltb, le-leb, leb-true, eq-eqb, eqb-true, get_or-take}
use Rattle.std.proofs.Math.Option.{Option, none, some}
use Rattle.std.proofs.lemmas.Bool.{not-false, not-true}
use Rattle.theory.specs.TestLaws.{or_l, or_r, and_in, and_l, and_r, ⇒-in, ⇒-elim, all_in, all_at, not_passed, false_true, cond_true, cond_false}
use Rattle.refusal.specs.declared.Refusal.{Refusal}
use Rattle.refusal.specs.Number.{number_of}
use Rattle.refusal.specs.declared.Refusal.TheVariants.{CaseSize, Directory, PartPlace}
use Rattle.casefile.specs.Directory.{part_count, directory_end, size_test, directory_test, misplaced, part_at, parts_from}
use Rattle.casefile.specs.Reading.{Content, CaseReading, refused, content, case_reading, store_reading, parts_reading}
use Rattle.desk.specs.Desk.{Desk, Question}
use Rattle.desk.specs.Case.{N1, N2, lattice_size, table_size, limit}
use Rattle.desk.specs.View.{View}
use Rattle.desk.specs.Refused.{short, sizes_obey, row_obeys, settled_obeys, round_obeys, lowerings_obey, standing_obeys, table_obeys, rules_obeyed, obeys_for, spoiled_as, Rules, spoiled, is_model, Condition, condition_test, ConditionHolds, refusal_of, conditions, AllHold, InRange, FirstBroken, refusals_of, OneOf, first_refusal}
use Rattle.desk.specs.RulesLaws.{Long, AllGive}

-- ---- the lengths that refusal 11 asks for

pub long-enough : (d : Desk) → short d ≡ false → Long d
unfolding short
long-enough d e =
    let two = or_l (ltb (length d.store) 24576 || ltb (length d.first) 4096) (ltb (length d.second) 4096) e in
    record {
      store_long = ltb-false _ _ (or_l (ltb (length d.store) 24576) (ltb (length d.first) 4096) two);
      first_long = ltb-false _ _ (or_r (ltb (length d.store) 24576) (ltb (length d.first) 4096) two);
      second_long = ltb-false _ _ (or_r (ltb (length d.store) 24576 || ltb (length d.first) 4096) (ltb (length d.second) 4096) e);
    }

pub long_not_short : (d : Desk) → Long d → short d ≡ false
unfolding short
long_not_short d w = rw (le-ltb (length d.store) 24576 w.store_long, le-ltb (length d.first) 4096 w.first_long, le-ltb (length d.second) 4096 w.second_long)

-- ---- the rules of 12

-- the tests say what Rules says
pub rules_out : (d : Desk) (c : Content) → store_reading d.store ≡ content c → obeys_for c d ≡ true → Rules d c
unfolding rules_obeyed
rules_out d c e h =
    record {
      reads = e;
      size1 = eqb-true _ _ (search (and_l, and_r));
      size2 = eqb-true _ _ (search (and_l, and_r));
      row_below = ltb-true _ _ (search (and_l, and_r));
      nothing_yet = λ z. not-true _ (⇒-elim (eqb d.standing.row 0) (not d.standing.changed) (search (and_l, and_r)) (eq-eqb _ _ z));
      unsettled_most = λ z. leb-true _ _ (sym (cond_false d.standing.settled (settled_obeys (limit c) d.standing) (leb d.standing.round (limit c)) z) ∙ round);
      settled_least = λ z. let k = settled z in leb-true _ _ (search (and_l, and_r));
      settled_most = λ z. let k = settled z in leb-true _ _ (search (and_l, and_r));
      settled_row = λ z. let k = settled z in eqb-true _ _ (search (and_l, and_r));
      lowerings_most = leb-true _ _ lowerings;
      first_below_lem = λ i l. ltb-true _ _ (all_at (table_size c) (λ j. ltb (get_or d.first j 0) (lattice_size c)) (search (and_l, and_r)) i l);
      second_below = λ i l. ltb-true _ _ (all_at (table_size c) (λ j. ltb (get_or d.second j 0) (lattice_size c)) second i l);
    }
  where
    round : round_obeys (limit c) d.standing ≡ true
    round = search (and_l, and_r)

    lowerings : lowerings_obey (limit c) d.standing ≡ true
    lowerings = search (and_l, and_r)

    second : table_obeys (table_size c) (lattice_size c) d.second ≡ true
    second = and_r (standing_obeys (N1 c) (N2 c) (lattice_size c) d.standing && table_obeys (table_size c) (lattice_size c) d.first) (table_obeys (table_size c) (lattice_size c) d.second) h

    settled : d.standing.settled ≡ true → settled_obeys (limit c) d.standing ≡ true
    settled z = sym (cond_true d.standing.settled (settled_obeys (limit c) d.standing) (leb d.standing.round (limit c)) z) ∙ round

pub rules_in : (d : Desk) (c : Content) → Rules d c → obeys_for c d ≡ true
unfolding rules_obeyed
rules_in d c w =
    and_in _ _
    (and_in _ _ (and_in _ _ (and_in _ _ (and_in _ _ sizes row) (round d.standing.settled refl)) (le-leb _ _ w.lowerings_most)) (all_in _ _ (λ i l. lt-ltb _ _ (w.first_below_lem i l))))
    (all_in _ _ (λ i l. lt-ltb _ _ (w.second_below i l)))
  where
    sizes : sizes_obey (N1 c) (N2 c) d.standing ≡ true
    sizes = and_in _ _ (eq-eqb _ _ w.size1) (eq-eqb _ _ w.size2)

    row : row_obeys (N1 c) d.standing ≡ true
    row = and_in _ _ (lt-ltb _ _ w.row_below) (⇒-in (eqb d.standing.row 0) (not d.standing.changed) (λ z. ap not (w.nothing_yet (eqb-true _ _ z))))

    round : (t : Bool) → d.standing.settled ≡ t → cond t (settled_obeys (limit c) d.standing) (leb d.standing.round (limit c)) ≡ true
    round true e = and_in _ _ (and_in _ _ (le-leb _ _ (w.settled_least e)) (le-leb _ _ (w.settled_most e))) (eq-eqb _ _ (w.settled_row e))
    round false e = le-leb _ _ (w.unsettled_most e)

pub spoiled_exactly : (d : Desk) → (spoiled d ≡ false) ↔ ((c : Content) × Rules d c)
unfolding spoiled
spoiled_exactly d = (λ p. go (store_reading d.store) refl p, λ w. rw (w.1.reads, rules_in d w.0 w.1))
  where
    go : (x : CaseReading) → store_reading d.store ≡ x → spoiled_as d x ≡ false → (c : Content) × Rules d c
    go (refused r) e h = absurd (false_true h refl)
    go (content c) e h = (c, rules_out d c e (not-false (obeys_for c d) h))

-- ---- the conditions after 12

is_model_lem : (m : ℕ) → (is_model m ≡ true) ↔ ((m ≡ 1) ⊎ (m ≡ 2))
is_model_lem m = (there (eqb m 1) refl, ⊎_elim (λ (e : m ≡ 1). rw e) (λ (e : m ≡ 2). rw e))
  where
    there : (b : Bool) → eqb m 1 ≡ b → (b || eqb m 2) ≡ true → (m ≡ 1) ⊎ (m ≡ 2)
    there true e h = inl (eqb-true m 1 e)
    there false e h = inr (eqb-true m 2 h)

-- one by one: the test is passed exactly when the statement holds
pub condition_exactly : (x : Condition) (v : View) → (condition_test x v ≡ true) ↔ ConditionHolds x v
condition_exactly (Condition.Formula f) v = (ltb-true _ _, lt-ltb _ _)
condition_exactly (Condition.Model m) v = is_model_lem m
condition_exactly (Condition.State m q) v = (ltb-true _ _, lt-ltb _ _)
condition_exactly (Condition.Element e) v = (ltb-true _ _, lt-ltb _ _)
condition_exactly (Condition.TableLength t) v = (eqb-true _ _, eq-eqb _ _)
condition_exactly (Condition.TableBytes t) v =
    let c = v.holds in (
      λ h i l. ltb-true _ _ (all_at (table_size c) (λ j. ltb (get_or t j 0) (lattice_size c)) h i l),
      λ h. all_in _ _ (λ i l. lt-ltb _ _ (h i l)),
    )
condition_exactly (Condition.Fits needed b) v = (leb-true _ _, le-leb _ _)

-- the refusals that they give have numbers above 12
refusal_late : (x : Condition) → 12 < number_of (refusal_of x)
refusal_late (Condition.Formula f) = omega arith
refusal_late (Condition.Model m) = omega arith
refusal_late (Condition.State m q) = omega arith
refusal_late (Condition.Element e) = omega arith
refusal_late (Condition.TableLength t) = omega arith
refusal_late (Condition.TableBytes t) = omega arith
refusal_late (Condition.Fits needed b) = omega arith

none_some : (r : Refusal) → none ≡ some r → ⊥
none_some r e = let z : ◌≡◌ {A = ℕ} 0 1 = cc in omega arith

-- the first condition, and the rest
module _ (v : View) (x : Condition) (rest : Option Refusal) where
  abbrev given : Option Refusal
  given = cond (condition_test x v) rest (some (refusal_of x))

  given_holds : ConditionHolds x v → given ≡ rest
  given_holds h = cond_true _ _ _ ((condition_exactly x v).1 h)

  given-broken : ¬ ConditionHolds x v → given ≡ some (refusal_of x)
  given-broken n = cond_false _ _ _ (not_passed (condition_test x v) (λ p. n ((condition_exactly x v).0 p)))

  -- it holds or it is broken
  given-either : (ConditionHolds x v × (given ≡ rest)) ⊎ (¬ ConditionHolds x v × (given ≡ some (refusal_of x)))
  given-either = go (condition_test x v) refl
    where
      go : (b : Bool) → condition_test x v ≡ b → (ConditionHolds x v × (given ≡ rest)) ⊎ (¬ ConditionHolds x v × (given ≡ some (refusal_of x)))
      go true p = let h = (condition_exactly x v).0 p in inl (h, given_holds h)
      go false p = let n : ¬ ConditionHolds x v = λ h. false_true p ((condition_exactly x v).1 h) in inr (n, given-broken n)

some_same : (r s : Refusal) → some r ≡ some s → s ≡ r
some_same r s e = cc

module _ (v : View) where
  -- no refusal is given exactly when all of them hold
  pub holding_exactly : (xs : List Condition) → (first_refusal xs v ≡ none) ↔ AllHold xs v
  holding_exactly [] = (λ e. tt, λ h. refl)
  holding_exactly (x ∷ xs) = (
    λ e. ⊎_elim (λ p. (p.0, (holding_exactly xs).0 (sym p.1 ∙ e))) (λ p. absurd (none_some _ (sym e ∙ p.1))) (given-either v x (first_refusal xs v)),
    λ h. given_holds v x (first_refusal xs v) h.0 ∙ (holding_exactly xs).1 h.1,
  )

  -- and the refusal r exactly when it is that of the first broken one
  pub broken_exactly : (r : Refusal) (xs : List Condition) → (first_refusal xs v ≡ some r) ↔ FirstBroken r xs v
  broken_exactly r [] = (none_some r, λ h. absurd h)
  broken_exactly r (x ∷ xs) = (
    λ e. ⊎_elim (λ p. inr (p.0, (broken_exactly r xs).0 (sym p.1 ∙ e))) (λ p. inl (p.0, some_same _ _ (sym p.1 ∙ e))) (given-either v x (first_refusal xs v)),
    λ h. ⊎_elim (λ p. given-broken v x (first_refusal xs v) p.0 ∙ ap some (sym p.1)) (λ p. given_holds v x (first_refusal xs v) p.0 ∙ (broken_exactly r xs).1 p.1) h,
  )

  -- a refusal that is given is one of theirs, and has a number above 12
  pub refusal_one : (xs : List Condition) (r : Refusal) → first_refusal xs v ≡ some r → OneOf r (refusals_of xs) × (12 < number_of r)
  refusal_one xs r e = go xs ((broken_exactly r xs).0 e)
    where
      go : (xs : List Condition) → FirstBroken r xs v → OneOf r (refusals_of xs) × (12 < number_of r)
      go [] h = absurd h
      go (x ∷ xs) h = ⊎_elim (λ p. (inl p.1, rw p.1 (refusal_late x))) (λ p. let w = go xs p.1 in (inr w.0, w.1)) h

pub range_exactly : (q : Question) (v : View) → (first_refusal (conditions q) v ≡ none) ↔ InRange q v
range_exactly q v = holding_exactly v (conditions q)

pub same_refusal_exactly : (r : Refusal) (xs : List Condition) (v : View) → AllGive r xs → (first_refusal xs v ≡ some r) ↔ ¬ AllHold xs v
same_refusal_exactly r xs v g = (λ e h. none_some r (sym ((holding_exactly v xs).1 h) ∙ e), λ n. given (first_refusal xs v) refl n)
  where
    one : (xs : List Condition) (s : Refusal) → AllGive r xs → OneOf s (refusals_of xs) → s ≡ r
    one [] s g o = absurd o
    one (x ∷ xs) s g o = ⊎_elim (λ (p : s ≡ refusal_of x). p ∙ g.0) (λ p. one xs s g.1 p) o

    given : (x : Option Refusal) → first_refusal xs v ≡ x → ¬ AllHold xs v → x ≡ some r
    given none e n = absurd (n ((holding_exactly v xs).0 e))
    given (some s) e n = ap some (one xs s g (refusal_one v xs s e).0)

-- 'A desk of zeros is refused with 12.' The first byte of the store is enough: it is the count of parts.
pub zeros-spoiled : (d : Desk) → get_or d.store 0 0 ≡ 0 → spoiled d ≡ true
unfolding spoiled case_reading
zeros-spoiled d z = go (size_test s)
  where
    s : List ℕ
    s = take 24576 d.store

    none : directory_test s ≡ false
    none =
        let e : get_or s 0 0 ≡ 0 = get_or-take 24576 d.store 0 0 (omega arith) ∙ z in
        not_passed (directory_test s)
        (λ t. omega (arith, e, leb-true 3 (get_or s 0 0) (and_l (leb 3 (get_or s 0 0)) (leb (get_or s 0 0) 11) (and_l (leb 3 (get_or s 0 0) && leb (get_or s 0 0) 11) (leb (directory_end s) (length s)) t))))

    go : (t : Bool) → spoiled_as d (cond t (cond (directory_test s) (cond (ltb (misplaced s) (part_count s)) (refused (PartPlace (misplaced s))) (parts_reading (part_at s 0) (part_at s 1) (part_at s 2) (parts_from s 3 (part_count s - 3)))) (refused Directory)) (refused CaseSize)) ≡ true
    go true = rw none
    go false = refl
