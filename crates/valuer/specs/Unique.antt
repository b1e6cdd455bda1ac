-- What `ModelOver` says can be so in one way alone, as the ghost field of `Valuation` asks. Rests on Values, elements' and model's Unique.
use Rattle.std.specs.Prelude.{ℕ, List}
use denote.Struct.Props.{props}
use Rattle.elements.specs.Unique.{same, Coded-prop}
use Rattle.elements.specs.declared.Lattice.{Lattice}
use Rattle.model.specs.Unique.{ModelShape-prop}
use Rattle.valuer.specs.Values.{ModelOver}

pub ModelOver-prop : (w : List ℕ) (l : Lattice) (m : List ℕ) → IsProp (ModelOver w l m)
ModelOver-prop w l m x y = λ i. record {
  coded = Coded-prop w l x.coded y.coded i;
  shape = ModelShape-prop m x.shape y.shape i;
  valued = record {
    initial_element = same x.valued.initial_element y.valued.initial_element (hlevel props) i;
    label_element = same x.valued.label_element y.valued.label_element (hlevel props) i;
    transition_element = same x.valued.transition_element y.valued.transition_element (hlevel props) i;
  };
}
