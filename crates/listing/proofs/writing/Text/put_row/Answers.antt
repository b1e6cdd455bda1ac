-- `listing::Text::put_row` meets its contract: the row's number, its entries, and the line's end.
use Rattle.listing.specs.Lines.{puts_then}
use Rattle.listing.proofs.writing.Text.put_row.Goals as goal

pub returns : goal.returns
returns c = puts_then (puts_then c.put_heading.ensures c.put_entries.ensures) c.put.ensures
