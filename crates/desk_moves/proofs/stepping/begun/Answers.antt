-- `desk_moves::begun` meets its contract: by the examination, and by what a settled desk answers.
use Rattle.std.proofs.Common.{refl}
use Rattle.desk.specs.Desk.{Call}
use Rattle.desk_moves.specs.Stepped.{settled_left}
use Rattle.desk_moves.specs.Finished.{refused_rest, settled_rest}
use Rattle.desk_moves.proofs.stepping.begun.Goals as goal

pub returns-in-Err : goal.returns-in-Err
returns-in-Err c =
    record {
      held = tt;
      unsettled = tt;
      stepped = c.in-Err.ensures.refused Call.Step refl;
      finished = refused_rest _ _ _ _ c.in-Err.ensures.examined refl;
    }

pub returns-then-d : goal.returns-then-d
returns-then-d c =
    let held = c.in-Ok.ensures.held in
    record {
      held = tt;
      unsettled = tt;
      stepped = settled_left held c.if-d.true c.answered.ensures;
      finished = settled_rest held c.if-d.true c.answered.ensures;
    }
