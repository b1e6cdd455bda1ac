-- `casefile::Case::write_pairs` meets its contract: the pairs of the parts passed so far are written.
use mathlib.Core.Path.{refl, ap, ◌∙◌}
use native.Mathlib.Omega.{arith}
use lib.ListN.{length}
use Rattle.casefile.specs.Gapless.{pairs}
use Rattle.casefile.proofs.Accepted.{part_length}
use Rattle.casefile.proofs.WriterLaws.{writing_start, writing_room, pairs_turn, writing_done}
use Rattle.casefile.proofs.Case.write_pairs.Goals as goal

pub loop-i-init : goal.loop-i-init
loop-i-init c = rw (c.end-at.ensures, c.directory.ensures) (writing_start pairs 1 c.args.self.placed c.requires (omega arith))

pub put_pair-requires : goal.put_pair-requires
put_pair-requires c =
    let r = writing_room c.loop-i.invariant c.loop-i-test.true in
    let e = ap length c.part-size.ensures in
    (omega (arith, r.directory-within, c.loop-i.auto.out), omega (arith, r.end_small), omega (arith, r.end_small, e))

pub overflow_add-at : goal.overflow_add-at
overflow_add-at c = omega (arith, (writing_room c.loop-i.invariant c.loop-i-test.true).end_small, ap length c.part-size.ensures)

pub loop-i-preserved : goal.loop-i-preserved
loop-i-preserved c =
    let i = c.loop-i-test.true in
    pairs_turn _ c.loop-i.invariant i (ap length c.part-size.ensures ∙ part_length _ c.args.self.placed _ i) c.put_pair.ensures

pub returns : goal.returns
unfolding pairs
returns c = writing_done c.loop-i.invariant refl c.loop-i-test.false
