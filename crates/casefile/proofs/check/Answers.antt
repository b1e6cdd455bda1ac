-- `casefile::check` meets its contract: by its steps, which are of the same bytes.
use mathlib.Core.Path.{◌≡◌, ◌∙◌}
use Rattle.casefile.proofs.Answered.{parts_answered}
use Rattle.casefile.proofs.check.Goals as goal

pub returns : goal.returns
returns c =
    let e : c.in_ok-case.case.bytes.now ≡ c.args.bytes.now = c.in_ok-case.ensures ∙ c.in_ok-directory.ensures in
    rw e at (parts_answered _ _ _ c.in_ok-case.case.placed c.check_parts.ensures)
