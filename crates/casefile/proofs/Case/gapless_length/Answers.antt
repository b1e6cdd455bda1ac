-- `casefile::Case::gapless_length` meets its contract: the directory and the parts passed so far are counted.
use Prim.Native.Nat.{◌+◌}
use mathlib.Core.Path.{ap, ◌∙◌}
use native.Mathlib.Omega.{arith}
use lib.ListN.{length}
use Rattle.casefile.specs.Writer.{Measured}
use Rattle.casefile.proofs.Accepted.{part_length}
use Rattle.casefile.proofs.WriterLaws.{measured_none, measured_more, measured_small, measured_done}
use Rattle.casefile.proofs.Case.gapless_length.Goals as goal
use Rattle.casefile.proofs.Case.gapless_length.Goals.{After-part}

-- the place after the part of a turn
next : (c : After-part) → Measured c.args.self.bytes.now (c.loop-i.i + 1) (c.loop-i.length + length c.part.result.now)
next c =
    let i = c.loop-i-test.true in
    measured_more c.loop-i.invariant _ i (ap length c.part.ensures ∙ part_length _ c.args.self.placed _ i)

pub loop-i-init : goal.loop-i-init
loop-i-init c = rw (c.end-length.ensures, c.directory.ensures) (measured_none c.args.self.placed)

pub overflow_add-length : goal.overflow_add-length
overflow_add-length c = omega (arith, measured_small (next (goal.at.overflow_add-length c).After-part))

pub loop-i-preserved : goal.loop-i-preserved
loop-i-preserved c = next (goal.at.loop-i-preserved c).After-part

pub returns : goal.returns
returns c = measured_done c.loop-i.invariant c.loop-i-test.false
