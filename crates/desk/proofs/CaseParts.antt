-- Formula f and model m of an accepted case, as parts of its bytes: for the proofs of the code that values them. Rests on Case, Refused and
-- casefile's Caller, and on formula's Answer.
-- The definitions are in specs/CaseParts.
use Rattle.std.specs.Prelude.{ℕ, ◌+◌, ◌<◌, ◌≡◌, refl, Bool, true, false, ◌||◌, List, eqb, length, get_or}
use Rattle.std.proofs.Common.{sym, ap, arith, eqb-true}
use Rattle.theory.specs.Model.{Valued}
use Rattle.theory.specs.Part.{model_of}
use Rattle.elements.specs.Words.{ops_in}
use Rattle.formula.specs.Bytes.{read, formula_reading}
use Rattle.casefile.specs.declared.Sizes.{Sizes}
use Rattle.casefile.specs.Directory.{part_at}
use Rattle.casefile.specs.Caller.{AcceptedCase}
use Rattle.desk.specs.Case.{formula_in}
use Rattle.desk.specs.Refused.{is_model}
use Rattle.desk.specs.CaseParts.{FormulaOnModel, ModelPart}

module _ {b : List ℕ} {z : Sizes} {w : List ℕ} (a : AcceptedCase b z w) where
  pub model_part : (m : ℕ) → is_model m ≡ true → ModelPart b a.holds m
  model_part m r = go (eqb m 1) refl r
    where
      go : (x : Bool) → eqb m 1 ≡ x → (x || eqb m 2) ≡ true → ModelPart b a.holds m
      go true e r = let q : m ≡ 1 = eqb-true m 1 e in rw q (record { shape = rw a.parts.model1 a.sound.shape1; valued = rw a.parts.model1 a.sound.valued1; is = ap model_of a.parts.model1; propositions = rw a.parts.model1; low = omega arith })
      go false e r = let q : m ≡ 2 = eqb-true m 2 r in rw q (record { shape = rw a.parts.model2 a.sound.shape2; valued = rw a.parts.model2 a.sound.valued2; is = ap model_of a.parts.model2; propositions = rw a.parts.model2 (sym a.sound.same_propositions); low = omega arith })

  pub model_valued : (m : ℕ) → is_model m ≡ true → Valued (ops_in w z.lattice) (model_of (part_at b m))
  model_valued m r = rw a.ops (model_part m r).valued

  module _ (f m : ℕ) (formula : f < z.formulas) (model : is_model m ≡ true) where
    formula_below : f < length a.holds.formulas
    formula_below = rw a.sizes at formula

    pub formula_part : formula_reading (get_or (part_at b m) 1 0) (part_at b (3 + f)) ≡ read (formula_in a.holds f)
    formula_part = rw ((model_part m model).propositions, a.parts.formula f formula_below) (a.sound.formulas.each f formula_below)

    pub parts_formula_on_model : FormulaOnModel b f m
    parts_formula_on_model =
        let p = model_part m model in
        record {
          placed = a.placed;
          model_below = omega (arith, p.low, a.parts.least);
          formula_in_lem = omega (arith, formula_below, a.parts.count);
          few = a.placed.directory.count_most;
          shape = p.shape;
          reads = (formula_in a.holds f, formula_part);
        }
