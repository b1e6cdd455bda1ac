-- `listing::Accepted::models` meets its contract: the models of an accepted case are over the same propositions.
use Rattle.listing.specs.Accepting.{accepted_case}
use Rattle.listing.proofs.accepted.Accepted.models.Goals as goal

pub invariant_of-result : goal.invariant_of-result
invariant_of-result c =
    let a = accepted_case c.args.self.now.answered in
    record { same_propositions = rw (c.model-first.ensures, c.model-second.ensures, a.parts.model1, a.parts.model2) a.sound.same_propositions }
