use Rattle.std.proofs.Common.{ℕ, ◌<◌, get_or}
use Rattle.valuer_maps.proofs.write_first.Given as goal

abbrev pub invariant-loop-q : goal.invariant-loop-q
invariant-loop-q g l = (k : ℕ) → k < l.q → goal.F-post g l.f k (get_or l.word-items k 0)
