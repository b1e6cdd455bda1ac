-- `listing::put_accepted` meets its contract: the settled table, then the formulas.
use Rattle.listing.specs.Accepting.{accepted_case, settleable, settled_part_lem, formulas_fit, all_written}
use Rattle.listing.proofs.put_accepted.Goals as goal

pub put_settled-requires : goal.put_settled-requires
put_settled-requires c =
    settleable (accepted_case c.args.case.now.answered) c.algebra.result c.models.result c.algebra.ensures.0 c.algebra.ensures.1 c.models.ensures.0 c.models.ensures.1 _ c.requires

pub put_formulas-requires : goal.put_formulas-requires
put_formulas-requires c =
    let a = accepted_case c.args.case.now.answered in
    formulas_fit a _ _ c.requires
    (settled_part_lem a c.algebra.result c.models.result c.algebra.ensures.0 c.algebra.ensures.1 c.models.ensures.0 c.models.ensures.1 _ _ c.put_settled.ensures)

pub returns : goal.returns
returns c =
    let a = accepted_case c.args.case.now.answered in
    all_written a _ _ _
    (settled_part_lem a c.algebra.result c.models.result c.algebra.ensures.0 c.algebra.ensures.1 c.models.ensures.0 c.models.ensures.1 _ _ c.put_settled.ensures)
    c.put_formulas.ensures
