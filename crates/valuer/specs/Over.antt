-- A model part that is accepted over a lattice is a model over it. Rests on Values, model's Accepted.
--   over_test, over_checked: by the test of the part, and by what its check answers
use Rattle.std.specs.Prelude.{ℕ, Bool, List, Option, Some, None}
use Rattle.std.proofs.Math.Path.{◌≡◌, refl}
use Rattle.std.proofs.Common.{sym, ◌∙◌}
use Rattle.std.proofs.Math.Bool.{true, false, cond}
use Rattle.theory.specs.Part.{LatticePart}
use Rattle.elements.specs.Words.{Coded}
use Rattle.elements.specs.declared.Lattice.{Lattice}
use Rattle.model.proofs.Accepted.{accepted_shape, accepted_valued}
use Rattle.model.specs.Reading.{model_test, model_answer, size_of}
use Rattle.model.specs.declared.ModelSize.{ModelSize}
use Rattle.valuer.specs.Values.{ModelOver}

module _ {w : List ℕ} {l : Lattice} (c : Coded w l) where
  -- 'every value is an element' asks of a lattice only how many elements it has, so that any part of that size will do
  pub over_test : (m : List ℕ) → model_test l.size m ≡ true → ModelOver w l m
  over_test m t =
      let P : LatticePart = record { size = l.size; complement = λ a. a; order = λ a b. true } in
      let v = accepted_valued P m t in
      record {
        coded = c;
        shape = accepted_shape l.size m t;
        valued = record { initial_element = v.initial_element; label_element = v.label_element; transition_element = v.transition_element };
      }

  pub over_checked : (m : List ℕ) (r : Option ModelSize) (s : ModelSize) → r ≡ Some s → r ≡ model_answer l.size m → ModelOver w l m
  unfolding model_answer
  over_checked m r s e a = go (model_test l.size m) refl (sym e ∙ a)
    where
      go : (t : Bool) → model_test l.size m ≡ t → Some s ≡ cond t (Some (size_of m)) None → ModelOver w l m
      go true x y = over_test m x
      go false x y = cc
