-- `model::values::Model::transition_codes` meets its contract: the codes below r are written.
use Rattle.std.proofs.Common.{refl, ap, ◌∙◌, arith, length-set}
use Rattle.theory.specs.Written.{slice_none, slice_next, slice_all}
use Rattle.elements.specs.Words.{value_code}
use Rattle.model.proofs.values.Model.transition_codes.Goals as goal

pub loop-r-init : goal.loop-r-init
loop-r-init c = (omega arith, refl, slice_none)

pub loop-r-preserved : goal.loop-r-preserved
loop-r-preserved c =
    let a = c.args in
    let i = c.loop-r.invariant in
    (omega arith, simp length-set i.1, slice_next i.2 (omega arith) (c.value_code.ensures ∙ ap (value_code a.negated a.w.now.words) c.transition.ensures))

pub returns : goal.returns
returns c = slice_all c.loop-r.invariant.2 (omega arith) (omega arith)
