-- What stands at a place of a formula part, and what the valuer of that place answers. Rests on theory's Value, elements' Words,
-- formula's Bytes, valuer_maps' Code and Maps.
--   FormulaAt, SomeFormulaAt: a formula stands at a place
--   SlotsHold: three lists hold an environment, in codes
--   rounds, round_limit: a body applied n times, and how often at most
--   Node: what the valuer of a place answers; Both: or or and with the second formula; Iterated: what the iteration of a body answers
--   CodedValues, whole_code: the codes of a part's values, and that of the value on the whole model
use Rattle.std.specs.Prelude.{ℕ, suc, ◌+◌, ◌*◌, ◌-◌, ◌≤◌, ◌<◌, ◌≡◌, Bool, true, List, ◌++◌, length, get_or, drop, replicate}
use Rattle.std.specs.Int.Bits.{bit_and, bit_or}
use Rattle.theory.specs.Lattice.{Ops}
use Rattle.theory.specs.Loop.{fold}
use Rattle.theory.specs.Model.{Model}
use Rattle.theory.specs.Formula.{Formula, closed_under, over_props, nested_binders}
use Rattle.theory.specs.Value.{iterate, bind, eval, value_at}
use Rattle.theory.specs.Part.{model_of}
use Rattle.elements.specs.Words.{code_in, negated_code_in, ops_in}
use Rattle.elements.specs.declared.Lattice.{Lattice}
use Rattle.formula.specs.Bytes.{bytes_of, read, formula_reading}
use Rattle.valuer_maps.specs.Code.{slot_of, Combined}
use Rattle.valuer_maps.specs.Maps.{MapOf}

-- At place `at` of f stands φ, under d binders and over the propositions below k: 'At most 3 binders are nested. Every variable is bound.'
pub record FormulaAt (f : List ℕ) (at d k : ℕ) (φ : Formula) : Type 0 where
  pub rest : List ℕ
  pub bytes : drop at f ≡ bytes_of φ ++ rest
  pub is_closed : closed_under d φ ≡ true
  pub over : over_props k φ ≡ true
  pub nested : nested_binders φ + d ≤ 3

-- some formula stands there
pub record SomeFormulaAt (f : List ℕ) (at k : ℕ) : Type 0 where
  pub depth : ℕ
  pub formula : Formula
  pub formula_at : FormulaAt f at depth k formula

-- the body φ applied n times, under one more binder, from `start` at all states
abbrev pub rounds : Ops ℕ → Model ℕ → ℕ → ℕ → Formula → (ℕ → ℕ → ℕ) → ℕ → ℕ → ℕ
rounds O M n K φ e start = iterate n (λ x. eval O M K φ (bind x e)) (λ q. start)

-- the most rounds that a fixpoint takes: N·(n − 1)
unfoldable pub round_limit : Lattice → List ℕ → ℕ
round_limit l m = get_or m 0 0 * (l.size - 1)

-- The environment is three lists, the nearest binder's map first (valuer_maps' slot_of).
-- They hold the environment e, in codes, at the variables below d and at the first n states
pub record SlotsHold (w : List ℕ) (l : Lattice) (n : ℕ) (near mid far : List ℕ) (d : ℕ) (e : ℕ → ℕ → ℕ) : Type 0 where
  pub at : (v : ℕ) → v < d → MapOf w l (e v) n (slot_of near mid far v)

module _ (w : List ℕ) (l : Lattice) (m f : List ℕ) where
  -- whatever formula stands at place `at`, i is the place after it, and x is its values at all states, each fixpoint being its body applied
  -- that often
  pub record Node (at : ℕ) (near mid far x : List ℕ) (i : ℕ) : Type 0 where
    pub next : (d : ℕ) (φ : Formula) → FormulaAt f at d (get_or m 1 0) φ → i ≡ at + length (bytes_of φ)
    pub map : (d : ℕ) (φ : Formula) (e : ℕ → ℕ → ℕ) → FormulaAt f at d (get_or m 1 0) φ → SlotsHold w l (get_or m 0 0) near mid far d e
        → MapOf w l (eval (ops_in w l) (model_of m) (round_limit l m) φ e) (get_or m 0 0) x

  -- v is x combined with the map of what stands at place `at`, and i is the place after it
  pub record Both (at : ℕ) (or : Bool) (near mid far x v : List ℕ) (i : ℕ) : Type 0 where
    pub second : List ℕ
    pub node : Node at near mid far second i
    pub combined : Combined or x second (get_or m 0 0) v

  -- whatever body stands at place `at`, i is the place after it, and x is the fixpoint, from the element whose code is `start`
  pub record Iterated (at : ℕ) (near mid : List ℕ) (start : ℕ) (x : List ℕ) (i : ℕ) : Type 0 where
    pub next : (d : ℕ) (φ : Formula) → FormulaAt f at d (get_or m 1 0) φ → i ≡ at + length (bytes_of φ)
    pub map : (d : ℕ) (φ : Formula) (e : ℕ → ℕ → ℕ) (far : List ℕ) (a : ℕ) → FormulaAt f at (suc d) (get_or m 1 0) φ
        → SlotsHold w l (get_or m 0 0) near mid far d e → MapOf w l (λ q. a) (get_or m 0 0) (replicate 64 start)
        → MapOf w l (rounds (ops_in w l) (model_of m) (round_limit l m) (round_limit l m) φ e a) (get_or m 0 0) x

  -- x is the values of the formula that f is read as
  pub record CodedValues (x : List ℕ) : Type 0 where
    pub are : (φ : Formula) → formula_reading (get_or m 1 0) f ≡ read φ → MapOf w l (value_at (ops_in w l) (model_of m) φ) (get_or m 0 0) x

-- the meet over q of Q0(q) → x at q
abbrev pub whole_code : List ℕ → Lattice → List ℕ → List ℕ → ℕ
whole_code w l m x = fold bit_and (code_in w l.top.0) (λ q. bit_or (negated_code_in w ((model_of m).initial q)) (get_or x q 0)) (get_or m 0 0)
