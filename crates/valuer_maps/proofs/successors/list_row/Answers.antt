-- `valuer_maps::list_row` meets its contract: the states below r are listed, `count` of them.
use Rattle.std.proofs.Common.{ap, ◌∙◌, get_or, arith}
use Rattle.theory.specs.Loop.{indicator_most}
use Rattle.theory.specs.Simulation.{indicator}
use Rattle.valuer_maps.specs.Successors.{leads, listed_none, listed_more, listed_all}
use Rattle.valuer_maps.proofs.successors.list_row.Goals as goal

pub loop-r-init : goal.loop-r-init
loop-r-init c = record { few = omega arith; row = listed_none }

pub loop-r-preserved : goal.loop-r-preserved
loop-r-preserved c =
    let i = c.loop-r.invariant in
    let e = c.from-count.ensures ∙ ap indicator (c.leads.ensures ∙ ap (leads c.args.w.now.words c.args.top) c.transition.ensures) in
    record {
      few = omega (arith, c.from-count.ensures, indicator_most c.leads.result);
      row = listed_more i.row (omega (arith, c.args.m.now.shape.states_most)) e;
    }

pub returns : goal.returns
returns c = listed_all {n = get_or c.args.m.now.bytes.now 0 0} c.loop-r.invariant.row (omega arith) (omega arith) (omega arith)
