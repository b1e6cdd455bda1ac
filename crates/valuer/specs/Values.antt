-- What the valuer answers for a formula part. Rests on theory's Model, Part and Value, elements' Words, formula's Bytes and Answer.
--   ModelOver: words are a lattice's codes, and a part is a model over it
--   Reads: the part is read as some formula
--   from_initial: the meet over all states of initial value → value
--   ValueAt, WholeValue: the value at a state, and on the whole model
use Rattle.std.specs.Prelude.{ℕ, ◌≡◌, List, get_or}
use Rattle.theory.specs.Lattice.{Ops, imp, big_meet}
use Rattle.theory.specs.Model.{Model, Valued}
use Rattle.theory.specs.Formula.{Formula}
use Rattle.theory.specs.Value.{value_at, whole_value}
use Rattle.theory.specs.Part.{model_of, ModelShape}
use Rattle.elements.specs.Words.{ops_in, Coded}
use Rattle.elements.specs.declared.Lattice.{Lattice}
use Rattle.formula.specs.Bytes.{read, formula_reading}
use Rattle.formula.specs.Answer.{IsFormula}

-- w is the codes of a lattice with the numbers l, and m a model part over it: 'Every value is an element.'
pub record ModelOver (w : List ℕ) (l : Lattice) (m : List ℕ) : Type 0 where
  pub coded : Coded w l
  pub shape : ModelShape m
  pub valued : Valued (ops_in w l) (model_of m)

-- the formula part f is accepted, beside a model part m, and read as some formula
abbrev pub Reads : List ℕ → List ℕ → Type 0
Reads m f = IsFormula (get_or m 1 0) f

-- the meet over q of Q0(q) → x at q
abbrev pub from_initial : Ops ℕ → Model ℕ → (ℕ → ℕ) → ℕ
from_initial O M x = big_meet O M.states (λ q. imp O (M.initial q) (x q))

module _ (w : List ℕ) (l : Lattice) (m f : List ℕ) where
  -- r is, at state q, the value of the formula that f is read as
  pub record ValueAt (q r : ℕ) : Type 0 where
    pub is : (φ : Formula) → formula_reading (get_or m 1 0) f ≡ read φ → r ≡ value_at (ops_in w l) (model_of m) φ q

  -- r is its value on the whole model
  pub record WholeValue (r : ℕ) : Type 0 where
    pub is : (φ : Formula) → formula_reading (get_or m 1 0) f ≡ read φ → r ≡ whole_value (ops_in w l) (model_of m) φ
