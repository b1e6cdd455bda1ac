use Rattle.std.proofs.Common.{◌≡◌, ◌-◌, ◌≤◌, length}
use Rattle.listing.specs.Settling.{operations, model_1, model_2, AtRound}
use Rattle.listing.proofs.settling.settle.Given as goal

-- the first table holds round r, and every round up to r differs from the one before
abbrev pub invariant-loop-r : goal.invariant-loop-r
invariant-loop-r l = record {
  holds : AtRound (operations l.a) (model_1 l.models) (model_2 l.models) l.first l.r;
  few : l.r ≤ 4096;
  same_first : length l.first ≡ length l.initial.first;
  same_second : length l.second ≡ length l.initial.second;
}

abbrev pub decreases-loop-r : goal.decreases-loop-r
decreases-loop-r l = 4098 - l.r
