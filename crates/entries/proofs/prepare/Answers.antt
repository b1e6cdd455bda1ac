-- `entries::prepare` meets its contract: what the three calls ensure.
use Rattle.std.proofs.Common.{arith}
use Rattle.entries.specs.Words.{low_at}
use Rattle.entries.proofs.prepare.Goals as goal

pub returns : goal.returns
returns c =
    record {
      alike_are = rw c.code.ensures at c.propositions.ensures;
      left_is = record { at = low_at _ _ _ c.transition_codes.ensures (omega (arith, c.requires.2)) };
      table_is = c.encode_rows.ensures;
      room = omega (arith, c.requires.3);
    }
