-- `valuer_maps::along` meets its contract: the fold so far.
use Rattle.std.proofs.Common.{ℕ, ap₂, get_or, length, arith}
use Rattle.theory.specs.Loop.{folded_none, folded_more, folded_all}
use Rattle.valuer_maps.proofs.successors.along.Goals as goal

pub loop-r-init : goal.loop-r-init
loop-r-init g c = λ h k e. folded_none

pub loop-r-preserved : goal.loop-r-preserved
loop-r-preserved g c =
    λ h k e. folded_more (c.loop-r.invariant h k e) (ap₂ (λ (e r : ℕ). k e (get_or c.args.x.now r 0)) c.transition.ensures c.from.ensures) (e _ _ _ _ c.f-y.ensures)

pub returns : goal.returns
returns g c = λ h k e. folded_all {n = length c.args.row.now} (c.loop-r.invariant h k e) (omega arith) (omega arith)
