use Rattle.std.proofs.Common.{◌≡◌, ℕ, get_or}
use Rattle.theory.specs.Loop.{Folded}
use Rattle.theory.specs.Part.{model_of}
use Rattle.elements.specs.declared.Element.{Element}
use Rattle.valuer_maps.proofs.successors.along.Given as goal

abbrev pub invariant-loop-r : goal.invariant-loop-r
invariant-loop-r g l = (h k : ℕ → ℕ → ℕ) → ((y : ℕ) → (r : Element) → (v z : ℕ) → goal.F-post g l.f y r v z → z ≡ h y (k r.0 v))
    → Folded h l.start (λ i. k ((model_of l.m.bytes.now).transition l.q.0 (get_or l.row i 0)) (get_or l.x (get_or l.row i 0) 0)) l.r-index l.y
