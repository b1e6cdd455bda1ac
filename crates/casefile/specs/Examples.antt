-- The case of document 01's report example, read by the definitions. Rests on Answer, Gapless and Accepted, and on the examples of lattice and model.
-- Here stand the definitions; the theorems are in proofs/Examples.
use Rattle.std.specs.Prelude.{ℕ, List, [], ◌∷◌}
use Rattle.theory.specs.Formula.{prop}
use Rattle.theory.specs.Part.{explicit_part}
use Rattle.theory.specs.Examples.{L3, middle_P}
use Rattle.casefile.specs.Reading.{Content}

-- 'the bytes 4, 17 0 13 0, 30 0 5 0, 35 0 5 0, 40 0 2 0, 3, 2 1 0, 1 1 1 0 1 1 0 0 1, 1 1 2 1 0, 1 1 2 1 0, 2 0'
abbrev pub report_case : List ℕ
report_case =
    4
    ∷ 17 ∷ 0 ∷ 13 ∷ 0
    ∷ 30 ∷ 0 ∷ 5 ∷ 0
    ∷ 35 ∷ 0 ∷ 5 ∷ 0
    ∷ 40 ∷ 0 ∷ 2 ∷ 0
    ∷ 3
    ∷ 2 ∷ 1 ∷ 0
    ∷ 1 ∷ 1 ∷ 1 ∷ 0 ∷ 1 ∷ 1 ∷ 0 ∷ 0 ∷ 1
    ∷ 1 ∷ 1 ∷ 2 ∷ 1 ∷ 0
    ∷ 1 ∷ 1 ∷ 2 ∷ 1 ∷ 0
    ∷ 2 ∷ 0
    ∷ []

-- its parts: L3, twice the model of example 1, and the formula p
abbrev pub report_content : Content
report_content =
    record {
      lattice_bytes = L3;
      model1_bytes = middle_P;
      model2_bytes = middle_P;
      formula_bytes = (2 ∷ 0 ∷ []) ∷ [];
      lattice = explicit_part L3;
      formulas = prop 0 ∷ [];
    }
