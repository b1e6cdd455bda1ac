-- What comes of the models of a case, after its lattice: refusal 9 with part 1 or with part 2, or what is found from the formulas on. Rests on Reading.
-- The definitions are in specs/ModelsRead.
--   first_model, second_model: part 1 is named exactly when it fails its test, and part 2 exactly when it does, or k differs, and part 1 does not
--   past_models: anything else comes of the formulas, after both tests; test1, test2, from_formulas: the tests, and what is found after them
--   models_number: the number is 9 or 10; Between, given, one_of: the numbers of refusals, one test after the other
--   refused_content, same_refusal, differ: a refusal is no content, is one, and is none of another number
use Rattle.std.specs.Prelude.{ℕ, ◌≡◌, Bool, true, false, cond, ◌&&◌, ◌↔◌, List, eqb, get_or}
use Rattle.std.proofs.Math.Path.{ap}
use mathlib.Core.Logic.Iff
use Rattle.std.proofs.Common.{arith}
use Rattle.theory.specs.Part.{LatticePart}
use Rattle.refusal.specs.declared.Refusal.{Refusal}
use Rattle.refusal.specs.declared.Refusal.TheVariants.{BadModel, BadFormula}
use Rattle.refusal.specs.Number.{number_of, part_of}
use Rattle.refusal.specs.First.{first_here, first_later, first_never}
use Rattle.model.specs.Reading.{model_test}
use Rattle.casefile.specs.Reading.{Content, CaseReading, FormulasReading, formulas_reading, after_formulas, models_reading, refused, content, refused_at, read}
use Rattle.casefile.specs.ModelsRead.{Between}

pub refused_content : {r : Refusal} {c : Content} → refused r ≡ content c → ⊥
refused_content e = let z : ◌≡◌ {A = ℕ} 0 1 = cc in omega arith

pub same_refusal : {f r : Refusal} → refused f ≡ refused r → f ≡ r
same_refusal e = cc

pub differ : (f r : Refusal) → ¬ (number_of f ≡ number_of r) → refused f ≡ refused r → ⊥
differ f r n e = n (ap number_of (same_refusal e))

module _ (least : ℕ) where
  pub given : (f r : Refusal) → Between least f → refused f ≡ refused r → Between least r
  given f r n e = omega (arith, ap number_of (same_refusal e))

  pub one_of : (t : Bool) (f : Refusal) {next : CaseReading} (r : Refusal) → Between least f → (next ≡ refused r → Between least r)
      → cond t next (refused f) ≡ refused r → Between least r
  one_of true f r n g e = g e
  one_of false f r n g e = given f r n e

module _ (l : List ℕ) (P : LatticePart) (m1 m2 : List ℕ) (fs : List (List ℕ)) where
  -- the tests of the models, and what is found after them
  abbrev pub test1 : Bool
  test1 = model_test P.size m1

  abbrev pub test2 : Bool
  test2 = model_test P.size m2 && eqb (get_or m1 1 0) (get_or m2 1 0)

  abbrev pub from_formulas : CaseReading
  from_formulas = after_formulas l P m1 m2 fs (formulas_reading (get_or m1 1 0) 3 fs)

  -- the formulas are refused with 10
  formulas_number : (r : Refusal) → from_formulas ≡ refused r → Between 10 r
  formulas_number r = go (formulas_reading (get_or m1 1 0) 3 fs)
    where
      go : (x : FormulasReading) → after_formulas l P m1 m2 fs x ≡ refused r → Between 10 r
      go (refused_at i) e = given 10 (BadFormula i) r (omega arith) e
      go (read φs) e = absurd (let z : ◌≡◌ {A = ℕ} 0 1 = cc in omega arith)

  pub first_model : (models_reading l P m1 m2 fs ≡ refused (BadModel 1)) ↔ (¬ (test1 ≡ true))
  unfolding models_reading
  first_model =
      first_here test1 Iff.rfl
      (first_never test2 (λ e. omega (arith, ap part_of (same_refusal e))) (λ e. omega (arith, formulas_number (BadModel 1) e)))

  pub second_model : (models_reading l P m1 m2 fs ≡ refused (BadModel 2)) ↔ ((test1 ≡ true) × (¬ (test2 ≡ true)))
  unfolding models_reading
  second_model =
      first_later test1 Iff.rfl (λ e. omega (arith, ap part_of (same_refusal e)))
      (first_here test2 Iff.rfl (λ e. omega (arith, formulas_number (BadModel 2) e)))

  pub past_models : (x : CaseReading) → ((i : ℕ) → refused (BadModel i) ≡ x → ⊥)
      → (models_reading l P m1 m2 fs ≡ x) ↔ ((test1 ≡ true) × ((test2 ≡ true) × (from_formulas ≡ x)))
  unfolding models_reading
  past_models x n = first_later test1 Iff.rfl (n 1) (first_later test2 Iff.rfl (n 2) Iff.rfl)

  -- what is refused is refused with 9 or 10
  pub models_number : (r : Refusal) → models_reading l P m1 m2 fs ≡ refused r → Between 9 r
  unfolding models_reading
  models_number r =
      one_of 9 test1 (BadModel 1) r (omega arith) (one_of 9 test2 (BadModel 2) r (omega arith) (λ e. omega (arith, formulas_number r e)))
