-- `elements::codes::Codes::encode` meets its contract: the words below i are written.
use Rattle.std.proofs.Common.{refl, arith, length-set}
use Rattle.theory.specs.Written.{slice_none, slice_next, slice_all}
use Rattle.elements.proofs.codes.Codes.encode.Goals as goal

pub loop-i-init : goal.loop-i-init
loop-i-init c = (omega arith, refl, slice_none)

pub loop-i-preserved : goal.loop-i-preserved
loop-i-preserved c =
    let i = c.loop-i.invariant in
    (omega arith, simp length-set i.1, slice_next i.2 (omega arith) c.code.ensures)

pub returns : goal.returns
returns c = slice_all c.loop-i.invariant.2 (omega arith) (omega arith)
