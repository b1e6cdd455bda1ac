-- The formula parts of a case: which lists of parts are read as which formulas. Rests on Reading and Conditions.
--   formulas_exactly: parts are read as formulas exactly when there are as many of both and each part is read as its formula
--   formulas_read, read_less: one direction of it, and the same of all parts but the first
use Rattle.std.specs.Prelude.{ℕ, zero, suc, ◌<◌, ◌≡◌, refl, ◌↔◌, List, [], ◌∷◌, length, get_or}
use Rattle.std.proofs.Common.{sym, ap, ◌∙◌, le_of_suc-le-suc, not-suc-le-zero, arith}
use Rattle.theory.specs.Formula.{Formula, bottom}
use Rattle.formula.specs.Bytes.{FormulaReading, formula_reading}
use Rattle.casefile.specs.Reading.{FormulasReading, read_one, formulas_reading, refused_at, read}
use Rattle.casefile.specs.Conditions.{FormulasRead}

-- one part more, and one less
read_more : (k : ℕ) (p : List ℕ) (ps : List (List ℕ)) (φ : Formula) (φs : List Formula) → formula_reading k p ≡ FormulaReading.read φ → FormulasRead k ps φs → FormulasRead k (p ∷ ps) (φ ∷ φs)
read_more k p ps φ φs e h = record { as_many = ap suc h.as_many; each = each }
  where
    each : (f : ℕ) → f < length (φ ∷ φs) → formula_reading k (get_or (p ∷ ps) f []) ≡ FormulaReading.read (get_or (φ ∷ φs) f bottom)
    each zero l = e
    each (suc f) l = h.each f (le_of_suc-le-suc l)

pub read_less : (k : ℕ) (p : List ℕ) (ps : List (List ℕ)) (φ : Formula) (φs : List Formula) → FormulasRead k (p ∷ ps) (φ ∷ φs) → (formula_reading k p ≡ FormulaReading.read φ) × FormulasRead k ps φs
read_less k p ps φ φs h = (h.each 0 (omega arith), record { as_many = omega (arith, h.as_many); each = λ f l. h.each (suc f) (omega arith) })

-- a refused part is named, whatever follows it, and then no formulas are read
refused_named : (i : ℕ) (y : FormulasReading) → read_one i FormulaReading.refused y ≡ refused_at i
refused_named i y = refl

named_unread : {i : ℕ} {φs : List Formula} → refused_at i ≡ read φs → ⊥
named_unread e = let z : ◌≡◌ {A = ℕ} 0 1 = cc in omega arith

pub formulas_read : (k i : ℕ) (ps : List (List ℕ)) (φs : List Formula) → formulas_reading k i ps ≡ read φs → FormulasRead k ps φs
unfolding formulas_reading
formulas_read k i [] φs e = let q : φs ≡ [] = cc in rw q (record { as_many = refl; each = λ f l. absurd (not-suc-le-zero l) })
formulas_read k i (p ∷ ps) φs e = go (formula_reading k p) refl (formulas_reading k (suc i) ps) (formulas_read k (suc i) ps) e
  where
    go : (x : FormulaReading) → formula_reading k p ≡ x → (y : FormulasReading) → ((ψs : List Formula) → y ≡ read ψs → FormulasRead k ps ψs) → read_one i x y ≡ read φs → FormulasRead k (p ∷ ps) φs
    go FormulaReading.refused f y h u = absurd (named_unread (sym (refused_named i y) ∙ u))
    go (FormulaReading.read φ) f (refused_at j) h u = absurd (named_unread u)
    go (FormulaReading.read φ) f (read ψs) h u = let q : φs ≡ φ ∷ ψs = cc in rw q (read_more k p ps φ ψs f (h ψs refl))

read_formulas : (k i : ℕ) (ps : List (List ℕ)) (φs : List Formula) → FormulasRead k ps φs → formulas_reading k i ps ≡ read φs
unfolding formulas_reading
read_formulas k i [] [] h = refl
read_formulas k i [] (φ ∷ φs) h = absurd (omega (arith, h.as_many))
read_formulas k i (p ∷ ps) [] h = absurd (omega (arith, h.as_many))
read_formulas k i (p ∷ ps) (φ ∷ φs) h = let w = read_less k p ps φ φs h in simp (w.0, read_formulas k (suc i) ps φs w.1)

-- Parts are read as formulas exactly when there are as many of both and each part is read as its formula; i is the first part's number.
pub formulas_exactly : (k i : ℕ) (ps : List (List ℕ)) (φs : List Formula) → (formulas_reading k i ps ≡ read φs) ↔ FormulasRead k ps φs
formulas_exactly k i ps φs = (formulas_read k i ps φs, read_formulas k i ps φs)
