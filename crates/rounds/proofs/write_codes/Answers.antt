-- `rounds::write_codes` meets its contract: what the closure gives at each place.
use Rattle.std.proofs.Common.{rules, get_or}
use Rattle.elements.specs.Words.{decode_in}
use Rattle.rounds.proofs.write_codes.Goals as goal

pub returns : goal.returns
returns c = c.write_row.ensures (λ q. decode_in c.args.a.now.codes.now.words (get_or c.args.codes.now q 0)) (λ q y l e. search rules)
