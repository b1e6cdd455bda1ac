use Rattle.std.proofs.Common.{◌≡◌, ◌≤◌, length, get_or}
use Rattle.theory.specs.Written.{Slice}
use Rattle.elements.specs.Words.{code_in}
use Rattle.elements.proofs.codes.Codes.encode.Given as goal

abbrev pub invariant-loop-i : goal.invariant-loop-i
invariant-loop-i l = (l.i ≤ length l.s) × (length l.out ≡ length l.initial.out) × Slice 0 (λ i. code_in l.self.words (get_or l.s i 0)) l.i l.initial.out l.out
