-- Formulas of the latticed mu-calculus, and the tests on them that the demands name. Rests on nothing.
--   Formula: the eleven codes
--   closed_under, closed: no variable without its binder; universal: no EX; fixpoint_free; over_props: the propositions are below k
--   nested_AX, nested_binders: the most AX, and the most binders, that stand one within another
--   UniversalSentence: closed, universal and over the propositions below k
use Rattle.std.specs.Prelude.{ℕ, suc, max, ◌≡◌, Bool, true, false, ◌&&◌, ltb}

-- Document 01's codes in their order: 0 bottom; 1 top; 2 proposition; 3 negated proposition; 4 variable, with the count of binders
-- between it and its own (0 is the nearest); 5 or; 6 and; 7 AX; 8 EX; 9 least fixpoint; 10 greatest fixpoint
pub data Formula : Type 0 where
  bottom top : Formula
  prop negated var : ℕ → Formula
  or and : Formula → Formula → Formula
  AX EX mu nu : Formula → Formula

-- every variable is bound by one of d outer binders or by one of its own
unfoldable pub closed_under : ℕ → Formula → Bool
closed_under d bottom = true
closed_under d top = true
closed_under d (prop p) = true
closed_under d (negated p) = true
closed_under d (var v) = ltb v d
closed_under d (or f g) = closed_under d f && closed_under d g
closed_under d (and f g) = closed_under d f && closed_under d g
closed_under d (AX f) = closed_under d f
closed_under d (EX f) = closed_under d f
closed_under d (mu f) = closed_under (suc d) f
closed_under d (nu f) = closed_under (suc d) f

-- 'one whose variables are all bound is closed'
abbrev pub closed : Formula → Bool
closed f = closed_under 0 f

-- 'A formula without code 8 is universal'
unfoldable pub universal : Formula → Bool
universal bottom = true
universal top = true
universal (prop p) = true
universal (negated p) = true
universal (var v) = true
universal (or f g) = universal f && universal g
universal (and f g) = universal f && universal g
universal (AX f) = universal f
universal (EX f) = false
universal (mu f) = universal f
universal (nu f) = universal f

-- without fixpoints
unfoldable pub fixpoint_free : Formula → Bool
fixpoint_free bottom = true
fixpoint_free top = true
fixpoint_free (prop p) = true
fixpoint_free (negated p) = true
fixpoint_free (var v) = true
fixpoint_free (or f g) = fixpoint_free f && fixpoint_free g
fixpoint_free (and f g) = fixpoint_free f && fixpoint_free g
fixpoint_free (AX f) = fixpoint_free f
fixpoint_free (EX f) = fixpoint_free f
fixpoint_free (mu f) = false
fixpoint_free (nu f) = false

-- over the propositions below k
unfoldable pub over_props : ℕ → Formula → Bool
over_props k bottom = true
over_props k top = true
over_props k (prop p) = ltb p k
over_props k (negated p) = ltb p k
over_props k (var v) = true
over_props k (or f g) = over_props k f && over_props k g
over_props k (and f g) = over_props k f && over_props k g
over_props k (AX f) = over_props k f
over_props k (EX f) = over_props k f
over_props k (mu f) = over_props k f
over_props k (nu f) = over_props k f

-- 'Its nested AX are the most AX that stand one within another.'
unfoldable pub nested_AX : Formula → ℕ
nested_AX bottom = 0
nested_AX top = 0
nested_AX (prop p) = 0
nested_AX (negated p) = 0
nested_AX (var v) = 0
nested_AX (or f g) = max (nested_AX f) (nested_AX g)
nested_AX (and f g) = max (nested_AX f) (nested_AX g)
nested_AX (AX f) = suc (nested_AX f)
nested_AX (EX f) = nested_AX f
nested_AX (mu f) = nested_AX f
nested_AX (nu f) = nested_AX f

-- the most binders (codes 9 and 10) that stand one within another
unfoldable pub nested_binders : Formula → ℕ
nested_binders bottom = 0
nested_binders top = 0
nested_binders (prop p) = 0
nested_binders (negated p) = 0
nested_binders (var v) = 0
nested_binders (or f g) = max (nested_binders f) (nested_binders g)
nested_binders (and f g) = max (nested_binders f) (nested_binders g)
nested_binders (AX f) = nested_binders f
nested_binders (EX f) = nested_binders f
nested_binders (mu f) = suc (nested_binders f)
nested_binders (nu f) = suc (nested_binders f)

-- a closed universal formula over the propositions below k (000: a sentence of ALMC)
pub record UniversalSentence (k : ℕ) (f : Formula) : Type 0 where
  pub is_closed : closed f ≡ true
  pub is_universal : universal f ≡ true
  pub is_over : over_props k f ≡ true
