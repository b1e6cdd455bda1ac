-- What the ghost field of `Accepted` says can be so in one way alone. Rests on casefile's Answer, elements' Unique.
use Rattle.std.specs.Prelude.{ℕ, List, Result}
use denote.Struct.Props.{props}
use Rattle.elements.specs.Unique.{same}
use Rattle.theory.specs.Part.{LatticePart}
use Rattle.refusal.specs.declared.Refusal.{Refusal}
use Rattle.lattice.specs.Answer.{CodesOf}
use Rattle.casefile.specs.declared.Sizes.{Sizes}
use Rattle.casefile.specs.Reading.{Content}
use Rattle.casefile.specs.Answer.{CaseAnswered}

CodesOf-prop : (P : LatticePart) (w : List ℕ) → IsProp (CodesOf P w)
CodesOf-prop P w x y = λ i. record { codes = same x.codes y.codes (hlevel props) i; negated = same x.negated y.negated (hlevel props) i }

pub CaseAnswered-prop : (b : List ℕ) (r : Result Sizes Refusal) (w : List ℕ) → IsProp (CaseAnswered b r w)
CaseAnswered-prop b r w x y =
    let codes : (c : Content) → IsProp (CodesOf c.lattice w) = λ c. CodesOf-prop c.lattice w in
    λ i. record { answer = same x.answer y.answer (hlevel props) i; codes = same x.codes y.codes (hlevel (props, codes)) i }
