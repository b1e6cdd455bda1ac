-- `listing::Text::put_number` meets its contract: one digit, or those of the tenth and then the last. The measure is the number.
use native.Mathlib.Omega.{arith}
use Rattle.listing.specs.Decimal.{decimal-few}
use Rattle.listing.specs.Lines.{room_tenth, room_last, puts_more}
use Rattle.listing.proofs.writing.Text.+put_number.Goals as goal

pub put_byte-requires : goal.put_byte-requires
put_byte-requires t c = rw (decimal-few c.args.n c.if-n-lt10.true) at c.requires

pub returns-then-n-lt10 : goal.returns-then-n-lt10
returns-then-n-lt10 t c = rw (decimal-few c.args.n c.if-n-lt10.true) (rw c.digit.ensures at c.put_byte.ensures)

pub put_number-requires : goal.put_number-requires
put_number-requires t c = (omega arith, room_tenth c.args.n c.args.self.now c.if-n-lt10.false c.requires)

pub put_byte-requires-2 : goal.put_byte-requires-2
put_byte-requires-2 t c = room_last c.args.n c.if-n-lt10.false c.requires c.put_number.ensures

pub returns : goal.returns
returns t c = puts_more c.args.n c.if-n-lt10.false c.put_number.ensures (rw c.digit-2.ensures at c.put_byte-2.ensures)
