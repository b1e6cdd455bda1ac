-- `listing::put_values` meets its contract: the formula's number and the two values.
use Rattle.listing.specs.Text.{formula_text}
use Rattle.listing.specs.Lines.{puts_then}
use Rattle.listing.proofs.put_values.Goals as goal

pub returns : goal.returns
unfolding formula_text
returns c = puts_then (puts_then (rw c.from.ensures at c.put_heading.ensures) c.put_entry.ensures) (rw c.from-2.ensures at c.put_last.ensures)
