-- Demand 2 for the valuer's answers, over codes that hold a lattice and a model whose values are elements: they are the values of the
-- latticed mu-calculus, and they are elements. Rests on Values, theory's Calculus and Fixpoint, formula's RoundTrip.
--   value_at_calculus, whole_calculus: they are the calculus's, at a state and on the whole model
--   value_at-element, whole_element: they are elements
use Rattle.std.specs.Prelude.{ℕ, ◌<◌, ◌≡◌, List, get_or}
use Rattle.std.proofs.Math.Path.{ap}
use Rattle.std.proofs.Common.{◌∙◌, ltb-true}
use Rattle.theory.specs.Lattice.{Laws, imp}
use Rattle.theory.specs.Folds.{big_meet_cong, big_meet-element}
use Rattle.theory.specs.Model.{Valued}
use Rattle.theory.specs.Formula.{Formula}
use Rattle.theory.specs.Value.{value_at, whole_value}
use Rattle.theory.specs.Calculus.{Calculus}
use Rattle.theory.proofs.Fixpoint.{value_is, value_element}
use Rattle.theory.specs.Part.{model_of}
use Rattle.elements.specs.Words.{ops_in}
use Rattle.elements.specs.declared.Lattice.{Lattice}
use Rattle.formula.specs.Bytes.{read, formula_reading}
use Rattle.formula.specs.RoundTrip.{formula_part}
use Rattle.valuer.specs.Values.{from_initial, ValueAt, WholeValue}

module _ (w : List ℕ) (l : Lattice) (m f : List ℕ) (L : Laws (ops_in w l)) (ok : Valued (ops_in w l) (model_of m)) (φ : Formula) (e : formula_reading (get_or m 1 0) f ≡ read φ) where
  value_calculus : (u : Formula → (ℕ → ℕ → ℕ) → ℕ → ℕ) → Calculus (ops_in w l) (model_of m) u
      → (q : ℕ) → q < get_or m 0 0 → value_at (ops_in w l) (model_of m) φ q ≡ u φ (λ v i. l.bottom.0) q
  value_calculus u c = let p = formula_part (get_or m 1 0) f φ e in value_is L (model_of m) ok φ p.is_closed p.props u c

  -- 'Formula values are those of the latticed mu-calculus', at a state and on the whole model, whichever function gives these
  pub whole_calculus : (u : Formula → (ℕ → ℕ → ℕ) → ℕ → ℕ) → Calculus (ops_in w l) (model_of m) u → (r : ℕ) → WholeValue w l m f r
      → r ≡ from_initial (ops_in w l) (model_of m) (u φ (λ v i. l.bottom.0))
  unfolding whole_value
  whole_calculus u c r a = a.is φ e ∙ big_meet_cong (ops_in w l) (get_or m 0 0) _ _ (λ q b. ap (imp (ops_in w l) ((model_of m).initial q)) (value_calculus u c q b))

  pub value_at_calculus : (u : Formula → (ℕ → ℕ → ℕ) → ℕ → ℕ) → Calculus (ops_in w l) (model_of m) u → (q r : ℕ) → ValueAt w l m f q r → q < get_or m 0 0 → r ≡ u φ (λ v i. l.bottom.0) q
  value_at_calculus u c q r a b = a.is φ e ∙ value_calculus u c q b

  -- and they are elements
  pub value_at-element : (q r : ℕ) → ValueAt w l m f q r → q < get_or m 0 0 → r < l.size
  value_at-element q r a b =
      let p = formula_part (get_or m 1 0) f φ e in
      rw (a.is φ e) (ltb-true _ _ (value_element L (model_of m) ok φ p.is_closed p.props q b))

  pub whole_element : (r : ℕ) → WholeValue w l m f r → r < l.size
  unfolding whole_value
  whole_element r a = rw (a.is φ e) (ltb-true _ _ (big_meet-element L (get_or m 0 0) _))
