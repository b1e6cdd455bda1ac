use Rattle.std.proofs.Common.{◌≡◌, ℕ, ◌<◌, get_or, length}
use Rattle.rounds.specs.Row.{RowSoFar}
use Rattle.rounds.proofs.write_row.Given as goal

abbrev pub invariant-loop-q : goal.invariant-loop-q
invariant-loop-q g l = (h : ℕ → ℕ) → ((q y : ℕ) → q < length l.s → goal.F-post g l.f q (get_or l.s q 0) y → y ≡ h q) → RowSoFar l.changed 0 h (λ q. get_or l.s q 0) l.initial.out l.q l.out
