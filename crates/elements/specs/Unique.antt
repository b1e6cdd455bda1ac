-- What `Coded` says can be so in one way alone, as the ghost field of `Algebra` asks. Rests on Words.
use Rattle.std.specs.Prelude.{ℕ, ◌<◌, ◌≡◌, List, get_or}
use Rattle.std.specs.Coded.{le_prop}
use Rattle.std.proofs.Common.{sym, ◌∙◌}
use denote.Struct.Props.{props}
use mathlib.Core.HLevel.{is_prop→PathP}
use Rattle.elements.specs.declared.Lattice.{Lattice}
use Rattle.elements.specs.Words.{IsCode, Coded}

IsCode-prop : (w : List ℕ) (n x : ℕ) → ((a b : ℕ) → a < n → b < n → get_or w a 0 ≡ get_or w b 0 → a ≡ b) → IsProp (IsCode w n x)
IsCode-prop w n x d u v =
    let same_element : u.element ≡ v.element = d u.element v.element u.below v.below (sym u.code ∙ v.code) in
    let equation : (a : ℕ) → IsProp (x ≡ get_or w a 0) = hlevel props in
    λ i. record {
      element = same_element i;
      below = is_prop→PathP (λ j. same_element j < n) (λ j. le_prop) u.below v.below i;
      code = is_prop→PathP (λ j. x ≡ get_or w (same_element j) 0) (λ j. equation (same_element j)) u.code v.code i;
    }

-- two proofs of a fact that has one at most, the proofs first, so that they say which fact it is
pub same : {A : Type 0} (x y : A) → IsProp A → x ≡ y
same x y p = p x y

pub Coded-prop : (w : List ℕ) (l : Lattice) → IsProp (Coded w l)
Coded-prop w l x y =
    let code : (n : ℕ) → IsProp (IsCode w l.size n) = λ n. IsCode-prop w l.size n x.distinct in
    λ i. record {
      some = same x.some y.some (hlevel props) i;
      most = same x.most y.most (hlevel props) i;
      distinct = same x.distinct y.distinct (hlevel props) i;
      meets = same x.meets y.meets (hlevel (props, code)) i;
      joins = same x.joins y.joins (hlevel (props, code)) i;
      padded = same x.padded y.padded (hlevel props) i;
      negated = same x.negated y.negated (hlevel (props, code)) i;
      negated_padded = same x.negated_padded y.negated_padded (hlevel props) i;
      top_lt = same x.top_lt y.top_lt (hlevel props) i;
      top_is = same x.top_is y.top_is (hlevel props) i;
      bottom_lt = same x.bottom_lt y.bottom_lt (hlevel props) i;
      bottom_is = same x.bottom_is y.bottom_is (hlevel props) i;
    }
