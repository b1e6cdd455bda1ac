use Rattle.std.proofs.Common.{◌≡◌, ◌≤◌, length, get_or}
use Rattle.theory.specs.Written.{Slice}
use Rattle.model.specs.Reading.{leaving_code}
use Rattle.model.proofs.values.Model.transition_codes.Given as goal

abbrev pub invariant-loop-r : goal.invariant-loop-r
invariant-loop-r l = (l.r ≤ get_or l.self.bytes.now 0 0) × (length l.out ≡ length l.initial.out) × Slice 0 (leaving_code l.negated l.w.words l.self.bytes.now l.q.0) l.r l.initial.out l.out
