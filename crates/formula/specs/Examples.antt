-- The reading of formula parts at the limits, and the facts of some formulas, by computation, there being two propositions where nothing else is
-- said. Rests on Bytes and Answer.
use Rattle.std.specs.Prelude.{ℕ, zero, suc, ◌≡◌, refl, Bool, true, false, [], ◌∷◌, ◌++◌, Some, replicate}
use Rattle.theory.specs.Formula.{Formula, bottom, prop, negated, var, or, AX, mu, nu, closed_under, over_props, nested_binders, nested_AX, fixpoint_free, universal}
use Rattle.formula.specs.Bytes.{read, refused, formula_reading}
use Rattle.formula.specs.Answer.{checked}
use Rattle.formula.specs.declared.FormulaFacts.{FormulaFacts}

-- AX n times, and bottom
abbrev chain : ℕ → Formula
chain zero = bottom
chain (suc n) = AX (chain n)

-- 'formula of 255 bytes accepted, 256 gives 10; 3 binders accepted, 4 give 10'
bytes_255 : formula_reading 2 (replicate 254 7 ++ 0 ∷ []) ≡ read (chain 254)
unfolding formula_reading closed_under over_props nested_binders
bytes_255 = refl

bytes_256 : formula_reading 2 (replicate 255 7 ++ 0 ∷ []) ≡ refused
unfolding formula_reading closed_under over_props nested_binders
bytes_256 = refl

binders_3 : formula_reading 2 (9 ∷ 10 ∷ 9 ∷ 4 ∷ 2 ∷ []) ≡ read (mu (nu (mu (var 2))))
unfolding formula_reading closed_under over_props nested_binders
binders_3 = refl

binders_4 : formula_reading 2 (9 ∷ 10 ∷ 9 ∷ 10 ∷ 4 ∷ 0 ∷ []) ≡ refused
unfolding formula_reading closed_under over_props nested_binders
binders_4 = refl

-- 'Every variable is bound'
variable_without_binder : formula_reading 2 (9 ∷ 4 ∷ 1 ∷ []) ≡ refused
unfolding formula_reading closed_under over_props nested_binders
variable_without_binder = refl

-- 'followed by its number, below k'
proposition_1 : formula_reading 2 (5 ∷ 3 ∷ 1 ∷ 2 ∷ 0 ∷ []) ≡ read (or (negated 1) (prop 0))
unfolding formula_reading closed_under over_props nested_binders
proposition_1 = refl

proposition_2 : formula_reading 2 (2 ∷ 2 ∷ []) ≡ refused
unfolding formula_reading closed_under over_props nested_binders
proposition_2 = refl

-- 'used up exactly'
byte_left_over : formula_reading 2 (6 ∷ 0 ∷ 8 ∷ 1 ∷ 0 ∷ []) ≡ refused
unfolding formula_reading closed_under over_props nested_binders
byte_left_over = refl

-- ---- the facts: the deepest nesting of AX, whether a fixpoint occurs, whether EX occurs

abbrev facts : ℕ → Bool → Bool → FormulaFacts
facts n f e = record { nesting = n; fixpoint = f; ex = e }

-- p & AX (q | AX p)
second_branch_deeper : checked (formula_reading 2 (6 ∷ 2 ∷ 0 ∷ 7 ∷ 5 ∷ 2 ∷ 1 ∷ 7 ∷ 2 ∷ 0 ∷ [])) ≡ Some (facts 2 false false)
unfolding formula_reading closed_under over_props nested_binders nested_AX fixpoint_free universal
second_branch_deeper = refl

-- AX EX AX p: AX counts below EX, and the only EX stands inside AX
AX_through_EX : checked (formula_reading 2 (7 ∷ 8 ∷ 7 ∷ 2 ∷ 0 ∷ [])) ≡ Some (facts 2 false true)
unfolding formula_reading closed_under over_props nested_binders nested_AX fixpoint_free universal
AX_through_EX = refl

-- AX p | nu x. p & AX x: a fixpoint is not unrolled
AX_below_fixpoint : checked (formula_reading 2 (5 ∷ 7 ∷ 2 ∷ 0 ∷ 10 ∷ 6 ∷ 2 ∷ 0 ∷ 7 ∷ 4 ∷ 0 ∷ [])) ≡ Some (facts 1 true false)
unfolding formula_reading closed_under over_props nested_binders nested_AX fixpoint_free universal
AX_below_fixpoint = refl

-- propositions 7, 8, 9 and 10 of 16: their numbers are no codes
numbers_no_codes : checked (formula_reading 16 (5 ∷ 5 ∷ 2 ∷ 7 ∷ 3 ∷ 8 ∷ 6 ∷ 2 ∷ 9 ∷ 3 ∷ 10 ∷ [])) ≡ Some (facts 0 false false)
unfolding formula_reading closed_under over_props nested_binders nested_AX fixpoint_free universal
numbers_no_codes = refl

nesting_254 : checked (formula_reading 2 (replicate 254 7 ++ 0 ∷ [])) ≡ Some (facts 254 false false)
unfolding formula_reading closed_under over_props nested_binders nested_AX fixpoint_free universal
nesting_254 = refl
