-- What the check of a formula part answers, and the facts of a formula. Rests on Bytes and theory's Formula.
--   facts_of: the facts of a formula as written; checked: what the check answers
--   IsFormula, FactsIn: a part that is read as a formula, and the facts of that formula
use Rattle.std.specs.Prelude.{ℕ, ◌≡◌, not, List, Option, Some, None}
use Rattle.theory.specs.Formula.{Formula, nested_AX, fixpoint_free, universal}
use Rattle.formula.specs.Bytes.{FormulaReading, read, refused, formula_reading}
use Rattle.formula.specs.declared.FormulaFacts.{FormulaFacts}

-- request 102: 'The formula reader shall also report the deepest nesting of AX, whether a fixpoint occurs and whether EX occurs. (..) A number
-- of nestings is exact for the formula as written.'
abbrev pub facts_of : Formula → FormulaFacts
facts_of f = record { nesting = nested_AX f; fixpoint = not (fixpoint_free f); ex = not (universal f) }

-- a part is accepted exactly when it is read as a formula, whose facts are reported; none where it is refused
abbrev pub checked : FormulaReading → Option FormulaFacts
checked (read f) = Some (facts_of f)
checked refused = None

-- a part is read as some formula over k propositions
abbrev pub IsFormula : ℕ → List ℕ → Type 0
IsFormula k b = (φ : Formula) × (formula_reading k b ≡ read φ)

-- r is the facts of the formula that it is read as
pub record FactsIn (k : ℕ) (b : List ℕ) (r : FormulaFacts) : Type 0 where
  pub is : (φ : Formula) → formula_reading k b ≡ read φ → r ≡ facts_of φ
