-- `listing::Accepted::model` meets its contract: parts 1 and 2 of an accepted case have the form of models.
use Rattle.desk.proofs.CaseParts.{model_part}
use Rattle.listing.specs.Accepting.{accepted_case}
use Rattle.listing.proofs.accepted.Accepted.model.Goals as goal

pub invariant_of-case : goal.invariant_of-case
invariant_of-case c = record { placed = (accepted_case c.args.self.now.answered).placed }

pub invariant_of-result : goal.invariant_of-result
invariant_of-result c = record { shape = rw c.part-bytes.ensures (model_part (accepted_case c.args.self.now.answered) c.args.m c.requires).shape }
