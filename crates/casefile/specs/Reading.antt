-- The content of a case, or its refusal. Rests on Directory, and on the readings of lattice, model and formula parts.
--   Content, content_parts: what an accepted case holds, and its parts
--   case_reading: the content of a case, or its refusal (CaseReading); store_reading: that of a store
--   parts_reading, after_lattice, models_reading, after_formulas, formulas_reading (FormulasReading), read_one: its steps, part by part
use Rattle.std.specs.Prelude.{ℕ, suc, ◌-◌, cond, ◌&&◌, List, [], ◌∷◌, ltb, eqb, get_or, take}
use Rattle.theory.specs.Formula.{Formula}
use Rattle.theory.specs.Part.{LatticePart}
use Rattle.refusal.specs.declared.Refusal.{Refusal}
use Rattle.refusal.specs.declared.Refusal.TheVariants.{CaseSize, Directory, PartPlace, BadModel, BadFormula}
use Rattle.lattice.specs.Reading.{LatticeReading, lattice_reading}
use Rattle.model.specs.Reading.{model_test}
use Rattle.formula.specs.Bytes.{FormulaReading, formula_reading}
use Rattle.casefile.specs.Directory.{part_count, size_test, directory_test, misplaced, part_at, parts_from}

-- What an accepted case holds: the bytes of its parts, the lattice that part 0 gives, and the formulas that parts 3, 4, .. give.
-- 'Part 0 is the lattice, part 1 model 1, part 2 model 2, the rest formulas numbered from 0.' A model part b gives model_of b.
pub record Content : Type 0 where
  pub lattice_bytes : List ℕ
  pub model1_bytes : List ℕ
  pub model2_bytes : List ℕ
  pub formula_bytes : List (List ℕ)
  pub lattice : LatticePart
  pub formulas : List Formula

-- the parts of a content, in order
abbrev pub content_parts : Content → List (List ℕ)
content_parts c = c.lattice_bytes ∷ c.model1_bytes ∷ c.model2_bytes ∷ c.formula_bytes

pub data CaseReading : Type 0 where
  refused : Refusal → CaseReading
  content : Content → CaseReading

-- the formulas of some parts, or the number of the first part that is none
pub data FormulasReading : Type 0 where
  refused_at : ℕ → FormulasReading
  read : List Formula → FormulasReading

-- part i, and the parts after it
abbrev pub read_one : ℕ → FormulaReading → FormulasReading → FormulasReading
read_one i FormulaReading.refused rest = refused_at i
read_one i (FormulaReading.read f) (refused_at j) = refused_at j
read_one i (FormulaReading.read f) (read fs) = read (f ∷ fs)

unfoldable pub formulas_reading : ℕ → ℕ → List (List ℕ) → FormulasReading
formulas_reading k i [] = read []
formulas_reading k i (p ∷ ps) = read_one i (formula_reading k p) (formulas_reading k (suc i) ps)

-- after the models m1 and m2: the formulas fs, refused with 10
abbrev pub after_formulas : List ℕ → LatticePart → List ℕ → List ℕ → List (List ℕ) → FormulasReading → CaseReading
after_formulas l P m1 m2 fs (refused_at i) = refused (BadFormula i)
after_formulas l P m1 m2 fs (read φs) = content (record { lattice_bytes = l; model1_bytes = m1; model2_bytes = m2; formula_bytes = fs; lattice = P; formulas = φs })

-- after the lattice P: the models, refused with 9. 'Both models have the same k': where k differs, part 2 is refused
unfoldable pub models_reading : List ℕ → LatticePart → List ℕ → List ℕ → List (List ℕ) → CaseReading
unfolding formulas_reading
models_reading l P m1 m2 fs =
    cond (model_test P.size m1)
    (cond (model_test P.size m2 && eqb (get_or m1 1 0) (get_or m2 1 0))
    (after_formulas l P m1 m2 fs (formulas_reading (get_or m1 1 0) 3 fs))
    (refused (BadModel 2)))
    (refused (BadModel 1))

-- after the directory: the lattice, refused with 4 to 8
abbrev pub after_lattice : List ℕ → LatticeReading → List ℕ → List ℕ → List (List ℕ) → CaseReading
after_lattice l (LatticeReading.refused r) m1 m2 fs = refused r
after_lattice l (LatticeReading.accepted P) m1 m2 fs = models_reading l P m1 m2 fs

abbrev pub parts_reading : List ℕ → List ℕ → List ℕ → List (List ℕ) → CaseReading
parts_reading l m1 m2 fs = after_lattice l (lattice_reading l) m1 m2 fs

-- 'The first that applies is given, in this order, part by part from 3 on (all pairs first).'
unfoldable pub case_reading : List ℕ → CaseReading
case_reading b =
    cond (size_test b)
    (cond (directory_test b)
    (cond (ltb (misplaced b) (part_count b))
    (refused (PartPlace (misplaced b)))
    (parts_reading (part_at b 0) (part_at b 1) (part_at b 2) (parts_from b 3 (part_count b - 3))))
    (refused Directory))
    (refused CaseSize)

-- 'a store of 24,576 bytes'
abbrev pub store_length : ℕ
store_length = 24576

-- A store is read as a case, in its first bytes.
abbrev pub store_reading : List ℕ → CaseReading
store_reading s = case_reading (take store_length s)
