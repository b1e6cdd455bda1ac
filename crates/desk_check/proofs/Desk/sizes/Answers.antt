-- `desk_check::Desk::sizes` meets its contract: by that of `examine`.
use Rattle.std.proofs.Common.{sym, ap, ◌∙◌}
use Rattle.desk_check.specs.Answer.{examined_answer}
use Rattle.desk_check.specs.Held.{show-examined}
use Rattle.desk_check.proofs.Desk.sizes.Goals as goal

pub returns : goal.returns
returns c = c.examine.ensures.examined.answer ∙ sym (ap examined_answer (show-examined _))
