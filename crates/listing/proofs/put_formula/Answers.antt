-- `listing::put_formula` meets its contract: the line of the formula's values on models 1 and 2.
use Rattle.listing.specs.Text.{formula_line}
use Rattle.listing.specs.Accepting.{accepted_case}
use Rattle.listing.proofs.put_formula.Goals as goal

pub put_values-requires : goal.put_values-requires
unfolding formula_line
put_values-requires c =
    let a = accepted_case c.args.case.now.answered in
    rw (c.whole-v1.ensures a.holds a.reads, c.whole-v2.ensures a.holds a.reads) (c.requires.1 a.holds a.reads)

pub returns : goal.returns
unfolding formula_line
returns c d e = rw (c.whole-v1.ensures d e, c.whole-v2.ensures d e) at c.put_values.ensures
