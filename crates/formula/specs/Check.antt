-- What the checker of formula parts answers, and what it answers at each position. Rests on Bytes, Answer and theory's Simulation.
--   allowed_under: the rules under d binders; end_of, by end_if: the end of a formula that keeps them, with its facts
--   leaf_facts, two_facts, next_facts, fixpoint_facts: a formula's facts from those of the formulas directly within it
--   map_facts: an answer with its facts altered
--   NodeIs: what the code answers at a place
--   accepted_read, accepted_facts, refused_read: what a caller learns from the check's answer
use Rattle.std.specs.Prelude.{ℕ, max, ◌+◌, ◌-◌, ◌≤◌, ◌≡◌, refl, Bool, true, false, cond, not, ◌&&◌, ◌||◌, List, Option, Some, None, leb, length, drop}
use Rattle.std.proofs.Common.{ap, ◌∙◌, arith}
use Rattle.theory.specs.Formula.{Formula, closed_under, over_props, nested_binders}
use Rattle.theory.specs.Simulation.{indicator}
use Rattle.formula.specs.Bytes.{Parsed, parsed, unparsed, parse, FormulaReading, read, refused}
use Rattle.formula.specs.declared.FormulaFacts.{FormulaFacts}
use Rattle.formula.specs.declared.NodeRead.{NodeRead}
use Rattle.formula.specs.Answer.{facts_of, checked}

-- ---- at a position

-- the rules for a formula that stands under d binders; under none they are `allowed`
unfoldable pub allowed_under : ℕ → ℕ → Formula → Bool
allowed_under k d f = closed_under d f && over_props k f && leb (d + nested_binders f) 3

-- a formula that ends at a place and has these facts, where a test is passed; else none
abbrev pub end_if : Bool → ℕ → FormulaFacts → Option NodeRead
end_if t i x = cond t (Some (record { end = i; facts = x })) None

-- where a formula ends, in a part of n bytes: before the bytes that are left; and its facts
abbrev pub end_of : ℕ → ℕ → ℕ → Parsed → Option NodeRead
end_of k d n unparsed = None
end_of k d n (parsed f rest) = end_if (allowed_under k d f) (n - length rest) (facts_of f)

-- what a call answers for the formula that begins at a position, with k propositions and under d binders; n is any depth of the parse that is
-- enough
pub record NodeIs (b : List ℕ) (at k d : ℕ) (r : Option NodeRead) : Type 0 where
  pub is : (n : ℕ) → length b ≤ n + at → r ≡ end_of k d (length b) (parse n (drop at b))

-- ---- the facts, from those of the formulas directly within

-- of a formula of one token; of or and and; of AX, else EX; of a fixpoint
abbrev pub leaf_facts : FormulaFacts
leaf_facts = record { nesting = 0; fixpoint = false; ex = false }

abbrev pub two_facts : FormulaFacts → FormulaFacts → FormulaFacts
two_facts x y = record { nesting = max x.nesting y.nesting; fixpoint = x.fixpoint || y.fixpoint; ex = x.ex || y.ex }

abbrev pub next_facts : Bool → FormulaFacts → FormulaFacts
next_facts all x = record { nesting = x.nesting + indicator all; fixpoint = x.fixpoint; ex = x.ex || not all }

abbrev pub fixpoint_facts : FormulaFacts → FormulaFacts
fixpoint_facts x = record { nesting = x.nesting; fixpoint = true; ex = x.ex }

-- the same end, with other facts
abbrev pub map_facts : (FormulaFacts → FormulaFacts) → Option NodeRead → Option NodeRead
map_facts h (Some x) = Some (record { end = x.end; facts = h x.facts })
map_facts h None = None

-- ---- what an answer says of the reading

pub accepted_read : (x : FormulaReading) (i : FormulaFacts) → Some i ≡ checked x → (f : Formula) × (x ≡ read f)
accepted_read (read f) i e = (f, refl)
accepted_read refused i e = let z : ◌≡◌ {A = ℕ} 0 1 = cc in absurd (omega arith)

pub accepted_facts : (x : FormulaReading) (i : FormulaFacts) → Some i ≡ checked x → (f : Formula) → x ≡ read f → i ≡ facts_of f
accepted_facts x i e f h = let z : Some i ≡ Some (facts_of f) = e ∙ ap checked h in cc

pub refused_read : (x : FormulaReading) → None ≡ checked x → x ≡ refused
refused_read (read f) e = let z : ◌≡◌ {A = ℕ} 0 1 = cc in absurd (omega arith)
refused_read refused e = refl
