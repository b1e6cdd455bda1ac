-- `valuer_maps::Successors::next_values` meets its contract: each word is what the closure gives.
use Rattle.std.proofs.Common.{rules, arith}
use Rattle.valuer_maps.specs.Code.{next_code}
use Rattle.valuer_maps.proofs.successors.Successors.next_values.Goals as goal

pub returns-then-all : goal.returns-then-all
unfolding next_code
returns-then-all c = record {
  at = λ q b. let k = c.write_first.ensures q (omega (arith, c.states-n.ensures)) in rw (c.if-all.true, ← c.code-top.ensures) (search rules);
}

pub returns-else-all : goal.returns-else-all
unfolding next_code
returns-else-all c = record {
  at = λ q b. let k = c.write_first-else-all.ensures q (omega (arith, c.states-n.ensures)) in rw c.if-all.false (search rules);
}
