-- Demand 2, of the desk after every list of calls with an accepted opening in it. Rests on Run, and for the proof on Demand3Holds, Listed,
-- RefusedLaws, theory's Rounds and Fixpoint.
-- Here stand the definitions; the theorems are in proofs/Demand2.
--   Demand2: the settled table is the greatest latticed simulation (settled_table), and values are those of the latticed mu-calculus: what the
--     calls answer (values, wholes), with the formula's facts, that there is this calculus (calculus_is), and every closed formula's values (values_are)
-- d is the desk after such a list, and the case of its last accepted opening holds c
use Rattle.std.specs.Prelude.{ℕ, ◌≡◌, true}
use Rattle.theory.specs.Lattice.{imp, big_meet}
use Rattle.theory.specs.Formula.{Formula, closed, over_props}
use Rattle.theory.specs.Value.{SameMap, eval, enough, value_at}
use Rattle.theory.specs.Calculus.{Calculus}
use Rattle.theory.specs.Simulation.{GreatestSimulation}
use Rattle.formula.specs.Answer.{facts_of}
use Rattle.casefile.specs.Reading.{Content}
use Rattle.desk.specs.Desk.{Desk, Question, Call, Reply}
use Rattle.desk.specs.Case.{ops, model1, model2, model_in, formula_in}
use Rattle.desk.specs.Refused.{accepted}
use Rattle.desk.specs.View.{shown_table}
use Rattle.desk.specs.Perform.{asked}

pub record Demand2 (c : Content) (d : Desk) : Type 0 where
  -- 'the settled table is the greatest latticed simulation': 'it meets their equation, and every other table that does lies at or below it'
  pub settled_table : d.standing.settled ≡ true → GreatestSimulation (ops c) (model1 c) (model2 c) (shown_table c d)
  -- 'Formula values are those of the latticed mu-calculus': u is whatever function gives these, and a closed formula has no outer
  -- variables, so that any values of these will do
  pub values : (f m q : ℕ) → accepted (Call.Ask (Question.Value f m q)) d ≡ true → (u : Formula → (ℕ → ℕ → ℕ) → ℕ → ℕ) → Calculus (ops c) (model_in c m) u
      → asked (Question.Value f m q) d ≡ Reply.FormulaValue (u (formula_in c f) (λ v i. (ops c).bot) q) (facts_of (formula_in c f))
  -- there is such a function, and every closed formula over the case's propositions, in the case or not, has these values
  pub calculus_is : (m : ℕ) → Calculus (ops c) (model_in c m) (eval (ops c) (model_in c m) (enough (ops c) (model_in c m)))
  pub values_are : (m : ℕ) (φ : Formula) → closed φ ≡ true → over_props (model1 c).propositions φ ≡ true → (u : Formula → (ℕ → ℕ → ℕ) → ℕ → ℕ)
      → Calculus (ops c) (model_in c m) u → SameMap (ops c) (model_in c m) (value_at (ops c) (model_in c m) φ) (u φ (λ v i. (ops c).bot))
  -- 'A formula's value on a whole model is the meet over q of Q0(q) → value at q'
  pub wholes : (f m : ℕ) → accepted (Call.Ask (Question.Whole f m)) d ≡ true → (u : Formula → (ℕ → ℕ → ℕ) → ℕ → ℕ) → Calculus (ops c) (model_in c m) u
      → asked (Question.Whole f m) d ≡ Reply.FormulaValue (big_meet (ops c) (model_in c m).states (λ q. imp (ops c) ((model_in c m).initial q) (u (formula_in c f) (λ v i. (ops c).bot) q))) (facts_of (formula_in c f))
