-- Which of the refusals 1 to 10 a case is given. Rests on Reading, Placed, RefusedAs, ModelsRead, FirstParts, refusal's First, lattice's Numbered and
-- Accepted, model's Accepted.
-- The definitions are in specs/Numbered.
--   refused_as: each is given exactly when what it asks is broken and nothing that comes before it is; CaseRefused: number and part of a refused case
use Rattle.std.specs.Prelude.{ℕ, ◌-◌, ◌≤◌, ◌<◌, ◌≡◌, refl, Bool, true, false, cond, ◌↔◌, List, ltb, eqb, leb, get_or, length}
use Rattle.std.proofs.Common.{ap, ◌∙◌, arith, eqb-true, eq-eqb, ltb-true, leb-true, lt-ltb, le-leb}
use mathlib.Core.Logic.Iff
use Rattle.theory.specs.Part.{LatticePart}
use Rattle.theory.specs.TestLaws.{and_l, and_r, and_in}
use Rattle.refusal.specs.declared.Refusal.{Refusal}
use Rattle.refusal.specs.declared.Refusal.TheVariants.{CaseSize, Directory, PartPlace, BadModel, BadFormula, LatticeForm, NoPartialOrder, NoMeetOrJoin, NotDistributive, BadComplement}
use Rattle.refusal.specs.Number.{number_of, part_of}
use Rattle.refusal.specs.First.{first_here, first_later, first_never, refusal_unique}
use Rattle.lattice.specs.Reading.{LatticeReading, lattice_reading, lattice_of}
use Rattle.lattice.specs.Numbered.{form_exactly, lattice_refused}
use Rattle.lattice.specs.Accepted.{accepted_sound, lattice_exactly}
use Rattle.model.specs.Reading.{model_test}
use Rattle.model.proofs.Accepted.{model_exactly}
use Rattle.casefile.specs.Directory.{part_count, size_test, directory_test, misplaced, part_at, parts_from}
use Rattle.casefile.specs.Reading.{CaseReading, FormulasReading, formulas_reading, after_formulas, models_reading, after_lattice, case_reading, refused, refused_at, read}
use Rattle.casefile.specs.Conditions.{HasDirectory, Placed, PartPlaced}
use Rattle.casefile.specs.RefusedAs.{HasLattice, HasModel, HasSecondModel, HasFormula, FirstBroken, HasSize, RefusedAs}
use Rattle.casefile.proofs.FirstParts.{k, first_formula, first_misplaced}
use Rattle.casefile.specs.Placed.{has_directory, directory_in, none_misplaced, placed_reading}
use Rattle.lattice.specs.Conditions.{LatticeRefused}
use Rattle.casefile.specs.ModelsRead.{Between}
use Rattle.casefile.proofs.ModelsRead.{same_refusal, differ, given, one_of, test2, from_formulas, first_model, second_model, past_models, models_number}
use Rattle.casefile.specs.Numbered.{CaseNumber, CaseRefused}

module _ (b : List ℕ) where
  -- the formula parts
  abbrev fs : List (List ℕ)
  fs = parts_from b 3 (part_count b - 3)

  -- what is found from the places on, from the lattice on, once it is read as x, and from the models on
  abbrev from_models : LatticePart → CaseReading
  from_models P = models_reading (part_at b 0) P (part_at b 1) (part_at b 2) fs

  abbrev from_read : LatticeReading → CaseReading
  from_read x = after_lattice (part_at b 0) x (part_at b 1) (part_at b 2) fs

  abbrev from_lattice : CaseReading
  from_lattice = from_read (lattice_reading (part_at b 0))

  abbrev if_misplaced : Bool → CaseReading
  if_misplaced t = cond t (refused (PartPlace (misplaced b))) from_lattice

  abbrev from_places : CaseReading
  from_places = if_misplaced (ltb (misplaced b) (part_count b))

  -- ---- what is found later has a greater number

  module _ (r : Refusal) where
    lattice-number : from_lattice ≡ refused r → Between 4 r
    lattice-number e = go (lattice_reading (part_at b 0)) refl e
      where
        go : (x : LatticeReading) → lattice_reading (part_at b 0) ≡ x → from_read x ≡ refused r → Between 4 r
        go (LatticeReading.refused f) h e = omega (arith, (lattice_refused (part_at b 0)).only r (h ∙ ap LatticeReading.refused (same_refusal e)))
        go (LatticeReading.accepted P) h e = omega (arith, models_number _ P _ _ _ r e)

    places-number : from_places ≡ refused r → Between 3 r
    places-number e = go (ltb (misplaced b) (part_count b)) e
      where
        go : (t : Bool) → if_misplaced t ≡ refused r → Between 3 r
        go true e = given 3 (PartPlace (misplaced b)) r (omega arith) e
        go false e = omega (arith, lattice-number e)

    pub case-number : case_reading b ≡ refused r → CaseNumber r
    unfolding case_reading
    case-number =
        one_of 1 (size_test b) CaseSize r (omega arith)
        (one_of 1 (directory_test b) Directory r (omega arith) (λ e. omega (arith, places-number e)))

  -- ---- 1, 2 and 3

  size_exactly : (size_test b ≡ true) ↔ HasSize b
  size_exactly = (
    λ t.
        record {
          some = ltb-true _ _ (and_l (ltb 0 (length b)) (leb (length b) 32768) t);
          most = leb-true _ _ (and_r (ltb 0 (length b)) (leb (length b) 32768) t);
        },
    λ w. simp (lt-ltb _ _ w.some, le-leb _ _ w.most),
  )

  case_1 : (case_reading b ≡ refused CaseSize) ↔ (¬ HasSize b)
  unfolding case_reading
  case_1 =
      first_here (size_test b) size_exactly
      (first_never (directory_test b) (differ Directory CaseSize (λ e. omega arith)) (λ e. omega (arith, places-number CaseSize e)))

  case_2 : (case_reading b ≡ refused Directory) ↔ (HasSize b × (¬ HasDirectory b))
  unfolding case_reading
  case_2 =
      let w =
      first_later (size_test b) size_exactly (differ CaseSize Directory (λ e. omega arith))
      (first_here (directory_test b) Iff.rfl (λ (e : from_places ≡ refused Directory). omega (arith, places-number Directory e))) in (
        λ e. let v = w.0 e in (v.0, λ d. v.1 (directory_in b d).1),
        λ v. w.1 (v.0, λ t. v.1 (has_directory b (size_exactly.1 v.0) t)),
      )

  after_2 : (r : Refusal) → 2 < number_of r → (case_reading b ≡ refused r) ↔ (HasDirectory b × (from_places ≡ refused r))
  unfolding case_reading
  after_2 r l =
      let w =
      first_later (size_test b) Iff.rfl (differ CaseSize r (λ e. omega arith))
      (first_later (directory_test b) Iff.rfl (differ Directory r (λ e. omega arith)) Iff.rfl) in (
        λ e. let v = w.0 e in (has_directory b v.0 v.1.0, v.1.1),
        λ v. let t = directory_in b v.0 in w.1 (t.0, (t.1, v.1)),
      )

  places_first : (i : ℕ) → (from_places ≡ refused (PartPlace i)) ↔ FirstBroken 0 (part_count b) (PartPlaced b) i
  places_first i = (go (ltb (misplaced b) (part_count b)) refl, λ w. let v = (first_misplaced b i).1 w in rw (lt-ltb _ _ v.1) (ap (λ (j : ℕ). refused (PartPlace j)) v.0))
    where
      go : (t : Bool) → ltb (misplaced b) (part_count b) ≡ t → if_misplaced t ≡ refused (PartPlace i) → FirstBroken 0 (part_count b) (PartPlaced b) i
      go true t e = (first_misplaced b i).0 (cc, ltb-true _ _ t)
      go false t e = absurd (omega (arith, lattice-number (PartPlace i) e))

  after_3 : (r : Refusal) → 3 < number_of r → (case_reading b ≡ refused r) ↔ (Placed b × (from_lattice ≡ refused r))
  after_3 r l = (λ e. let w = (after_2 r (omega arith)).0 e in go w.0 (ltb (misplaced b) (part_count b)) refl w.1, λ v. placed_reading b v.0 ∙ v.1)
    where
      go : HasDirectory b → (t : Bool) → ltb (misplaced b) (part_count b) ≡ t → if_misplaced t ≡ refused r → Placed b × (from_lattice ≡ refused r)
      go d true t e = absurd (differ (PartPlace (misplaced b)) r (λ q. omega arith) e)
      go d false t e = (record { directory = d; each = none_misplaced b t }, e)

  -- ---- 4 to 8

  lattice_first : (r : Refusal) → number_of r ≤ 8 → (from_lattice ≡ refused r) ↔ (lattice_reading (part_at b 0) ≡ LatticeReading.refused r)
  lattice_first r l = (
    λ e. go (lattice_reading (part_at b 0)) refl e,
    λ h. ap from_read h,
  )
    where
      go : (x : LatticeReading) → lattice_reading (part_at b 0) ≡ x → from_read x ≡ refused r → lattice_reading (part_at b 0) ≡ LatticeReading.refused r
      go (LatticeReading.refused f) h e = h ∙ ap LatticeReading.refused (same_refusal e)
      go (LatticeReading.accepted P) h e = absurd (omega (arith, models_number _ P _ _ _ r e))

  case_4_to_8 : {X : Type 0} (r : Refusal) → 3 < number_of r → number_of r ≤ 8
      → (lattice_reading (part_at b 0) ≡ LatticeReading.refused r) ↔ X → (case_reading b ≡ refused r) ↔ (Placed b × X)
  case_4_to_8 r l m x = Iff.trans (after_3 r l) (Iff.and Iff.rfl (Iff.trans (lattice_first r m) x))

  -- ---- 9 and 10

  abbrev P : LatticePart
  P = lattice_of (part_at b 0)

  after_8 : (r : Refusal) → 8 < number_of r → (case_reading b ≡ refused r) ↔ (HasLattice b × (from_models P ≡ refused r))
  after_8 r l = (λ e. let w = (after_3 r (omega arith)).0 e in there w.0 (lattice_reading (part_at b 0)) refl w.1, λ v. back v.0 ∙ v.1)
    where
      there : Placed b → (x : LatticeReading) → lattice_reading (part_at b 0) ≡ x → from_read x ≡ refused r
          → HasLattice b × (from_models P ≡ refused r)
      there p (LatticeReading.refused f) h e = absurd (omega (arith, (lattice_refused (part_at b 0)).only r (h ∙ ap LatticeReading.refused (same_refusal e))))
      there p (LatticeReading.accepted Q) h e =
          let q : Q ≡ P = (accepted_sound (part_at b 0) Q h).0 in
          let w = (lattice_exactly (part_at b 0)).0 (h ∙ ap LatticeReading.accepted q) in
          (record { placed = p; form = (form_exactly (part_at b 0)).0 w.0; de_morgan = w.1 }, rw q at e)

      back : HasLattice b → case_reading b ≡ from_models P
      back w =
          placed_reading b w.placed
          ∙ ap from_read ((lattice_exactly (part_at b 0)).1 ((form_exactly (part_at b 0)).1 w.form, w.de_morgan))

  model_is : (i : ℕ) → (model_test P.size (part_at b i) ≡ true) ↔ HasModel b i
  model_is i = Iff.trans (model_exactly P (part_at b i)) (λ w. record { shape = w.0; valued = w.1 }, λ w. (w.shape, w.valued))

  second_is : (test2 (part_at b 0) P (part_at b 1) (part_at b 2) fs ≡ true) ↔ HasSecondModel b
  second_is = (
    λ t.
        let s = eqb-true _ _ (and_r (model_test P.size (part_at b 2)) (eqb (k b) (get_or (part_at b 2) 1 0)) t) in
        record { model = (model_is 2).0 (and_l (model_test P.size (part_at b 2)) _ t); same_propositions = s },
    λ w. and_in _ _ ((model_is 2).1 w.model) (eq-eqb _ _ w.same_propositions),
  )

  case_9_1 : (case_reading b ≡ refused (BadModel 1)) ↔ (HasLattice b × (¬ HasModel b 1))
  case_9_1 = Iff.trans (after_8 (BadModel 1) (omega arith)) (Iff.and Iff.rfl (Iff.trans (first_model _ P _ _ _) (Iff.not (model_is 1))))

  case_9_2 : (case_reading b ≡ refused (BadModel 2)) ↔ (HasLattice b × (HasModel b 1 × (¬ HasSecondModel b)))
  case_9_2 =
      Iff.trans (after_8 (BadModel 2) (omega arith))
      (Iff.and Iff.rfl (Iff.trans (second_model _ P _ _ _) (Iff.and (model_is 1) (Iff.not second_is))))

  formulas_first : (i : ℕ)
      → (from_formulas (part_at b 0) P (part_at b 1) (part_at b 2) fs ≡ refused (BadFormula i)) ↔ FirstBroken 3 (part_count b) (HasFormula b) i
  formulas_first i =
      Iff.trans (named (formulas_reading (k b) 3 fs))
      (Iff.trans (first_formula b (part_count b - 3) 3 i) (same_place _ _ (λ l m. omega arith), same_place _ _ (λ l m. omega arith)))
    where
      named : (x : FormulasReading) → (after_formulas (part_at b 0) P (part_at b 1) (part_at b 2) fs x ≡ refused (BadFormula i)) ↔ (x ≡ refused_at i)
      named (refused_at j) = (λ e. let q : j ≡ i = cc in ap refused_at q, λ e. cc)
      named (read φs) = (λ e. absurd (let z : ◌≡◌ {A = ℕ} 0 1 = cc in omega arith), λ e. absurd (let z : ◌≡◌ {A = ℕ} 0 1 = cc in omega arith))

      same_place : (c d : ℕ) → (3 ≤ i → i < c → i < d) → FirstBroken 3 c (HasFormula b) i → FirstBroken 3 d (HasFormula b) i
      same_place c d l w = record { least = w.least; below = l w.least w.below; earlier = w.earlier; broken = w.broken }

  case_10 : (i : ℕ)
      → (case_reading b ≡ refused (BadFormula i)) ↔ (HasLattice b × (HasModel b 1 × (HasSecondModel b × FirstBroken 3 (part_count b) (HasFormula b) i)))
  case_10 i =
      Iff.trans (after_8 (BadFormula i) (omega arith))
      (Iff.and Iff.rfl
      (Iff.trans (past_models _ P _ _ _ (refused (BadFormula i)) (λ j. differ (BadModel j) (BadFormula i) (λ e. omega arith)))
      (Iff.and (model_is 1) (Iff.and second_is (formulas_first i)))))

-- ---- all of them

-- where what is given is number and part of the case's refusal, it is given as the table says
pub refused_as : (b : List ℕ) (Given : ℕ → ℕ → Type 0) → ((n p : ℕ) → Given n p ↔ CaseRefused b n p) → RefusedAs Given b
refused_as b Given g =
    record {
      at_1 = Iff.trans (by CaseSize) (case_1 b);
      at_2 = Iff.trans (by Directory) (case_2 b);
      at_3 = λ i. Iff.trans (by (PartPlace i)) (Iff.trans (after_2 b (PartPlace i) (omega arith)) (Iff.and Iff.rfl (places_first b i)));
      at_4 = Iff.trans (by LatticeForm) (case_4_to_8 b LatticeForm (omega arith) (omega arith) l.at_4);
      at_5 = Iff.trans (by NoPartialOrder) (case_4_to_8 b NoPartialOrder (omega arith) (omega arith) l.at_5);
      at_6 = Iff.trans (by NoMeetOrJoin) (case_4_to_8 b NoMeetOrJoin (omega arith) (omega arith) l.at_6);
      at_7 = Iff.trans (by NotDistributive) (case_4_to_8 b NotDistributive (omega arith) (omega arith) l.at_7);
      at_8 = Iff.trans (by BadComplement) (case_4_to_8 b BadComplement (omega arith) (omega arith) l.at_8);
      at_9_1 = Iff.trans (by (BadModel 1)) (case_9_1 b);
      at_9_2 = Iff.trans (by (BadModel 2)) (case_9_2 b);
      at_10 = λ i. Iff.trans (by (BadFormula i)) (case_10 b i);
      only = λ n p h. let w = (g n p).0 h in omega (arith, case-number b w.0 w.1, w.2);
    }
  where
    l : LatticeRefused (part_at b 0)
    l = lattice_refused (part_at b 0)

    by : (r : Refusal) → Given (number_of r) (part_of r) ↔ (case_reading b ≡ refused r)
    by r = (
      λ h. let w = (g (number_of r) (part_of r)).0 h in w.1 ∙ ap refused (refusal_unique w.0 r w.2 w.3),
      λ e. (g (number_of r) (part_of r)).1 (r, e, refl, refl),
    )
