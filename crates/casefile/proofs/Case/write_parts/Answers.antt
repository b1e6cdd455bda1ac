-- `casefile::Case::write_parts` meets its contract: the parts passed so far are written.
use mathlib.Core.Path.{refl, ap}
use native.Mathlib.Nat.{le_refl}
use native.Mathlib.Omega.{arith}
use lib.ListN.{length}
use Rattle.casefile.specs.Gapless.{joined}
use Rattle.casefile.proofs.WriterLaws.{writing_start, writing_room, parts_turn, writing_done}
use Rattle.casefile.proofs.Case.write_parts.Goals as goal

pub loop-i-init : goal.loop-i-init
loop-i-init c = rw (c.end-place.ensures, c.directory.ensures) (writing_start (λ n. joined) _ c.args.self.placed c.requires (le_refl _))

pub copy-requires : goal.copy-requires
copy-requires c = omega (arith, ap length c.part-p.ensures, (writing_room c.loop-i.invariant c.loop-i-test.true).part_within, c.loop-i.auto.out)

pub overflow_add-place : goal.overflow_add-place
overflow_add-place c = omega (arith, (writing_room c.loop-i.invariant c.loop-i-test.true).end_small, ap length c.part-p.ensures)

pub loop-i-preserved : goal.loop-i-preserved
loop-i-preserved c = parts_turn c.loop-i.invariant c.loop-i-test.true c.part-p.ensures c.copy.ensures

pub returns : goal.returns
unfolding joined
returns c = writing_done c.loop-i.invariant refl c.loop-i-test.false
