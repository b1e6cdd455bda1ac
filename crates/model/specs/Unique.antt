-- What `ModelShape` says can be so in one way alone, as the ghost field of `Model` asks. Rests on theory's Part, elements' Unique.
use Rattle.std.specs.Prelude.{ℕ, ◌≡◌, List}
use Rattle.elements.specs.Unique.{same}
use Rattle.theory.specs.Part.{ModelShape}
use denote.Struct.Props.{props}

pub ModelShape-prop : (b : List ℕ) → IsProp (ModelShape b)
ModelShape-prop b x y =
    λ i. record {
      some = same x.some y.some (hlevel props) i;
      states_most = same x.states_most y.states_most (hlevel props) i;
      propositions_most = same x.propositions_most y.propositions_most (hlevel props) i;
      exact = same x.exact y.exact (hlevel props) i;
    }
