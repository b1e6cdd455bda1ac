-- `listing::Text::put_item` meets its contract: the label, then the number.
use Rattle.listing.specs.Lines.{puts_then}
use Rattle.listing.proofs.writing.Text.put_item.Goals as goal

pub returns : goal.returns
returns c = puts_then c.put.ensures c.put_number.ensures
