-- `rounds::write_row` meets its contract: the bytes below q are written and compared.
use Rattle.std.proofs.Common.{refl, arith}
use Rattle.rounds.specs.Row.{row_none, row_next, row_all}
use Rattle.rounds.proofs.write_row.Goals as goal

pub loop-q-init : goal.loop-q-init
loop-q-init g c = λ h e. row_none

pub loop-q-preserved : goal.loop-q-preserved
loop-q-preserved g c = λ h e. row_next (c.loop-q.invariant h e) (omega arith) refl (e _ _ (omega arith) c.f-e.ensures)

pub returns : goal.returns
returns g c = λ h e. row_all (c.loop-q.invariant h e) (omega arith) (omega arith)
