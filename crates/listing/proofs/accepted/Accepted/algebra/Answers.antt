-- `listing::Accepted::algebra` meets its contract: the codes of an accepted case are those of its lattice.
use Rattle.listing.specs.Accepting.{accepted_case}
use Rattle.listing.proofs.accepted.Accepted.algebra.Goals as goal

pub invariant_of-result : goal.invariant_of-result
invariant_of-result c = record { coded = (accepted_case c.args.self.now.answered).coded }
