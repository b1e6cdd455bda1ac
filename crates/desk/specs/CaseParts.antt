-- Formula f and model m of an accepted case, as parts of its bytes: for the proofs of the code that values them. Rests on Case, Refused and
-- casefile's Caller, and on formula's Answer.
-- Here stand the definitions; the theorems are in proofs/CaseParts.
--   FormulaOnModel: what valuing formula f on model m asks of a case; parts_formula_on_model: an accepted case fulfils it
--   ModelPart, model_part: part m of an accepted case is model m of its content; model_valued: its values are elements; formula_part: part 3 + f is read as formula f
use Rattle.std.specs.Prelude.{ℕ, ◌+◌, ◌≤◌, ◌<◌, ◌≡◌, List, get_or}
use Rattle.theory.specs.Model.{Valued}
use Rattle.theory.specs.Part.{ops_of, model_of, ModelShape}
use Rattle.formula.specs.Answer.{IsFormula}
use Rattle.casefile.specs.Directory.{part_count, part_at}
use Rattle.casefile.specs.Conditions.{Placed}
use Rattle.casefile.specs.Reading.{Content}
use Rattle.desk.specs.Case.{model_in}

-- what valuing formula f on model m asks of the case b: the parts stand in it, and read as a model and a formula
pub record FormulaOnModel (b : List ℕ) (f m : ℕ) : Type 0 where
  pub placed : Placed b
  pub model_below : m < part_count b
  pub formula_in_lem : 3 + f < part_count b
  pub few : part_count b ≤ 11
  pub shape : ModelShape (part_at b m)
  pub reads : IsFormula (get_or (part_at b m) 1 0) (part_at b (3 + f))

-- part m of the case b is model m of its content c
pub record ModelPart (b : List ℕ) (c : Content) (m : ℕ) : Type 0 where
  pub shape : ModelShape (part_at b m)
  pub valued : Valued (ops_of c.lattice) (model_of (part_at b m))
  pub is : model_of (part_at b m) ≡ model_in c m
  pub propositions : get_or (part_at b m) 1 0 ≡ get_or c.model1_bytes 1 0
  pub low : m < 3
