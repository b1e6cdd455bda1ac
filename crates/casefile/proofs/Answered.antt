-- The steps of the check give the answer of the reading. Rests on Answer, Placed, Accepted and Steps.
--   size-read, directory-read, place_read: where the test of refusal 1, 2 or 3 fails, the case is read as that refusal
--   refused_answered, size-answered, directory-answered, place_answered: a case that is read as a refusal is answered that refusal
--   second_equal, second_differs: what is answered once model 2 has passed its own test
--   parts_answered: what the parts of a placed case are answered, the case is answered
use Rattle.std.specs.Prelude.{ℕ, ◌-◌, ◌<◌, ◌≡◌, Bool, cond, ◌&&◌, List, ltb, length, get_or, Some, None, Result, Err}
use Rattle.std.proofs.Math.Path.{refl}
use Rattle.std.proofs.Common.{sym, ap, ◌∙◌, lt-ltb, eq-eqb, ne_eqb}
use Rattle.std.proofs.Math.Bool.{true, false}
use Rattle.std.proofs.Math.Dec.{eqb}
use Rattle.theory.specs.Part.{LatticePart}
use Rattle.refusal.specs.declared.Refusal.{Refusal}
use Rattle.refusal.specs.declared.Refusal.TheVariants.{CaseSize, Directory, PartPlace, BadModel}
use Rattle.lattice.specs.Reading.{LatticeReading, lattice_reading}
use Rattle.lattice.specs.Answer.{top_and_bottom, lattice_answer, CodesOf}
use Rattle.model.specs.Reading.{model_test, model_answer, size_of}
use Rattle.elements.specs.declared.Lattice.{Lattice}
use Rattle.casefile.specs.declared.Sizes.{Sizes}
use Rattle.casefile.specs.Directory.{part_count, size_test, directory_test, misplaced, part_at, parts_from}
use Rattle.casefile.specs.Reading.{Content, CaseReading, FormulasReading, formulas_reading, after_formulas, models_reading, after_lattice, case_reading, refused, refused_at, read}
use Rattle.casefile.specs.Answer.{case_answer, CaseAnswered}
use Rattle.casefile.specs.Placed.{placed_reading, directory_in}
use Rattle.casefile.specs.Conditions.{HasDirectory, Placed}
use Rattle.casefile.proofs.FormulaParts.{formulas_read}
use Rattle.casefile.specs.Accepted.{ContentOf}
use Rattle.casefile.proofs.Accepted.{refused_content, content_of, parts_length}
use Rattle.casefile.specs.Steps.{formulas_answer, rest_of, rest_answer, after_second, second_answer, after_first, models_answer, after_checked, PartsAnswered}

-- model 2 with the same k, and with another
pub second_equal : (b : List ℕ) (l : Lattice) (N1 k N2 k2 : ℕ) → k ≡ k2 → rest_answer b l N1 N2 k ≡ after_second b l N1 k (Some (record { states = N2; propositions = k2 }))
second_equal b l N1 k N2 k2 e = rw (eq-eqb k k2 e) refl

pub second_differs : (b : List ℕ) (l : Lattice) (N1 k N2 k2 : ℕ) → (k ≡ k2 → ⊥) → ◌≡◌ {A = Result Sizes Refusal} (Err (BadModel 2)) (after_second b l N1 k (Some (record { states = N2; propositions = k2 })))
second_differs b l N1 k N2 k2 e = rw (ne_eqb k k2 e) refl

module _ (b : List ℕ) where
  abbrev fs : List (List ℕ)
  fs = parts_from b 3 (part_count b - 3)

  rest_same : (P : LatticePart) (x : FormulasReading) → formulas_reading (get_or (part_at b 1) 1 0) 3 fs ≡ x → rest_of b (top_and_bottom P) (get_or (part_at b 1) 0 0) (get_or (part_at b 2) 0 0) (get_or (part_at b 1) 1 0) (formulas_answer x) ≡ case_answer (after_formulas (part_at b 0) P (part_at b 1) (part_at b 2) fs x)
  rest_same P (refused_at i) e = refl
  rest_same P (read φs) e =
      let n : length φs ≡ part_count b - 3 = (formulas_read _ 3 fs φs e).as_many ∙ parts_length b 3 (part_count b - 3) in
      rw n refl

  -- what model 2 and the formulas are read as
  abbrev second_reading : LatticePart → Bool → CaseReading
  second_reading P t = cond t (after_formulas (part_at b 0) P (part_at b 1) (part_at b 2) fs (formulas_reading (get_or (part_at b 1) 1 0) 3 fs)) (refused (BadModel 2))

  second_same : (P : LatticePart) → second_answer b (top_and_bottom P) (get_or (part_at b 1) 0 0) (get_or (part_at b 1) 1 0) ≡ case_answer (second_reading P (model_test P.size (part_at b 2) && eqb (get_or (part_at b 1) 1 0) (get_or (part_at b 2) 1 0)))
  unfolding model_answer
  second_same P = go (model_test P.size (part_at b 2)) (eqb (get_or (part_at b 1) 1 0) (get_or (part_at b 2) 1 0)) refl
    where
      go : (t u : Bool) → eqb (get_or (part_at b 1) 1 0) (get_or (part_at b 2) 1 0) ≡ u → after_second b (top_and_bottom P) (get_or (part_at b 1) 0 0) (get_or (part_at b 1) 1 0) (cond t (Some (size_of (part_at b 2))) None) ≡ case_answer (second_reading P (t && u))
      go false u e = refl
      go true true e = rw e (rest_same P (formulas_reading (get_or (part_at b 1) 1 0) 3 fs) refl)
      go true false e = rw e refl

  models_same : (P : LatticePart) → models_answer b (top_and_bottom P) ≡ case_answer (models_reading (part_at b 0) P (part_at b 1) (part_at b 2) fs)
  unfolding models_reading model_answer
  models_same P = go (model_test P.size (part_at b 1))
    where
      go : (s : Bool) → after_first b (top_and_bottom P) (cond s (Some (size_of (part_at b 1))) None) ≡ case_answer (cond s (second_reading P (model_test P.size (part_at b 2) && eqb (get_or (part_at b 1) 1 0) (get_or (part_at b 2) 1 0))) (refused (BadModel 1)))
      go false = refl
      go true = second_same P

  parts_same : (x : LatticeReading) → after_checked b (lattice_answer x) ≡ case_answer (after_lattice (part_at b 0) x (part_at b 1) (part_at b 2) fs)
  parts_same (LatticeReading.refused f) = refl
  parts_same (LatticeReading.accepted P) = models_same P

  -- ---- the answers of the check

  pub refused_answered : (f : Refusal) (t : List ℕ) → case_reading b ≡ refused f → CaseAnswered b (Err f) t
  refused_answered f t e = record { answer = rw e refl; codes = λ c g. absurd (refused_content (sym e ∙ g)) }

  pub size-read : size_test b ≡ false → case_reading b ≡ refused CaseSize
  unfolding case_reading
  size-read e = simp e

  pub directory-read : size_test b ≡ true → directory_test b ≡ false → case_reading b ≡ refused Directory
  unfolding case_reading
  directory-read s e = simp (s, e)

  pub place_read : (i : ℕ) → HasDirectory b → i ≡ misplaced b → i < part_count b → case_reading b ≡ refused (PartPlace i)
  unfolding case_reading
  place_read i h e m = let d = directory_in b h in simp (d.0, d.1, ← e, lt-ltb i (part_count b) m)

  pub size-answered : (t : List ℕ) → size_test b ≡ false → CaseAnswered b (Err CaseSize) t
  size-answered t e = refused_answered CaseSize t (size-read e)

  pub directory-answered : (t : List ℕ) → size_test b ≡ true → directory_test b ≡ false → CaseAnswered b (Err Directory) t
  directory-answered t s e = refused_answered Directory t (directory-read s e)

  pub place_answered : (t : List ℕ) (i : ℕ) → size_test b ≡ true → directory_test b ≡ true → i ≡ misplaced b → ltb i (part_count b) ≡ true → CaseAnswered b (Err (PartPlace i)) t
  unfolding case_reading
  place_answered t i s d e m = refused_answered (PartPlace i) t (simp (s, d, ← e, m))

  pub parts_answered : (r : Result Sizes Refusal) (t : List ℕ) → Placed b → PartsAnswered b r t → CaseAnswered b r t
  parts_answered r t p h =
      let q = placed_reading b p in
      record {
        answer = h.answer ∙ parts_same (lattice_reading (part_at b 0)) ∙ ap case_answer (sym q);
        codes = λ c e. go c (content_of (part_at b 0) (part_at b 1) (part_at b 2) fs c (sym q ∙ e));
      }
    where
      go : (c : Content) → ContentOf (part_at b 0) (part_at b 1) (part_at b 2) fs c → CodesOf c.lattice t
      go c k = h.codes c.lattice (let e : part_at b 0 ≡ c.lattice_bytes = cc k.is in rw e k.reads.lattice_read)
