-- `valuer_maps::combined` meets its contract: each word is what the closure gives.
use Rattle.std.proofs.Common.{rules}
use Rattle.valuer_maps.specs.Code.{join_or_meet_code}
use Rattle.valuer_maps.proofs.combined.Goals as goal

pub returns-then-up : goal.returns-then-up
unfolding join_or_meet_code
returns-then-up c = record { at = λ q b. let k = c.write_first.ensures q b in rw c.if-up.true (search rules) }

pub returns-else-up : goal.returns-else-up
unfolding join_or_meet_code
returns-else-up c = record { at = λ q b. let k = c.write_first-else-up.ensures q b in rw c.if-up.false (search rules) }
