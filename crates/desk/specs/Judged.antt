-- What judge's yes and no say of a table (request 104), of a desk whose questions are answered from a view. Rests on Demand3, Refused, Run, RefusedLaws,
-- ViewLaws, theory's Rounds and Preservation, rounds' Round, and casefile's Content.
-- Here stand the definitions; the theorems are in proofs/Judged.
--   PostFixed: a table is at or below F of it, for the content of a case
use Rattle.std.specs.Prelude.{ℕ}
use Rattle.theory.specs.Simulation.{PostFixedBy}
use Rattle.casefile.specs.Reading.{Content}
use Rattle.desk.specs.Case.{ops, model1, model2, operator}

-- S is at or below F of it
abbrev pub PostFixed : Content → (ℕ → ℕ → ℕ) → Type 0
PostFixed c = PostFixedBy (ops c) (model1 c) (model2 c) (operator c)
