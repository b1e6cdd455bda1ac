-- `valuer_maps::literals` meets its contract: each word is what the closure gives.
use Rattle.std.proofs.Common.{rules, arith}
use Rattle.valuer_maps.proofs.literals.Goals as goal

pub returns : goal.returns
returns c = record { at = λ q b. let k = c.write_first.ensures q (omega (arith, c.states.ensures)) in search rules }
