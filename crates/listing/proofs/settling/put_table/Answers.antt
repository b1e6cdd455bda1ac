-- `listing::put_table` meets its contract: the number of the round, the rows, and the score.
use Rattle.listing.specs.Text.{table_text}
use Rattle.listing.specs.Lines.{puts_then}
use Rattle.listing.proofs.settling.put_table.Goals as goal

pub returns : goal.returns
unfolding table_text
returns c = puts_then (puts_then c.put_last.ensures c.put_rows.ensures) (rw (c.from.ensures, c.score-score.ensures) at c.put_last-2.ensures)
