-- `listing::put_formulas` meets its contract: the lines passed so far are written.
use Rattle.std.proofs.Common.{arith}
use Rattle.listing.specs.Text.{formula_line}
use Rattle.listing.specs.Lines.{loop_start, loop_room, loop_turn, loop_done}
use Rattle.listing.specs.Accepting.{accepted_case, formulas_are, formulas_room}
use Rattle.listing.proofs.put_formulas.Goals as goal

pub loop-f-init : goal.loop-f-init
loop-f-init c d e =
    let k = c.args.case.now in
    loop_start c.args.text.now k.sizes.formulas (formula_line d) (formulas_room (accepted_case k.answered) d e c.args.text.now c.requires)

pub put_formula-requires : goal.put_formula-requires
put_formula-requires c = (
  omega arith,
  λ d e. loop_room c.args.text.now c.args.case.now.sizes.formulas (formula_line d) (formulas_room (accepted_case c.args.case.now.answered) d e c.args.text.now c.requires) c.loop-f.f (omega arith) (c.loop-f.invariant d e),
)

pub loop-f-preserved : goal.loop-f-preserved
loop-f-preserved c d e = loop_turn c.loop-f.f (formula_line d) (c.loop-f.invariant d e) (c.put_formula.ensures d e)

pub returns : goal.returns
returns c d e =
    rw (formulas_are (accepted_case c.args.case.now.answered) d e) at
    (loop_done c.loop-f.f c.args.case.now.sizes.formulas (formula_line d) (omega arith) (c.loop-f.invariant d e))
