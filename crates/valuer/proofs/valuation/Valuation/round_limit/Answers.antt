-- `valuer::Valuation::round_limit` meets its contract.
use Rattle.std.proofs.Common.{ℕ, ◌*◌, ◌-◌, ap, ap₂}
use Rattle.valuer.specs.Node.{round_limit}
use Rattle.valuer.proofs.valuation.Valuation.round_limit.Goals as goal

pub returns : goal.returns
unfolding round_limit
returns c = ap₂ ◌*◌ c.states.ensures (ap (λ (i : ℕ). i - 1) c.from.ensures)
