-- `listing::put_refused` meets its contract: the number, then the part, of at most three digits each.
use Rattle.std.proofs.Common.{arith, length-append}
use Rattle.listing.specs.Text.{decimal, line_end, refused_text}
use Rattle.listing.specs.Decimal.{decimal_three}
use Rattle.listing.specs.Lines.{puts-length, puts_then}
use Rattle.listing.proofs.put_refused.Goals as goal

pub put_last-requires : goal.put_last-requires
put_last-requires c =
    let p = c.put_item.ensures in
    omega (
      arith,
      p.wrote.next_is,
      puts-length p,
      decimal_three c.from-number.result (omega arith),
      decimal_three c.from-part.result (omega arith),
      length-append (decimal c.from-number.result) line_end,
      length-append (decimal c.from-part.result) line_end,
    )

pub returns : goal.returns
unfolding refused_text
returns c = rw (← c.part.ensures, ← c.from-part.ensures, ← c.number.ensures, ← c.from-number.ensures) (puts_then c.put_item.ensures c.put_last.ensures)
