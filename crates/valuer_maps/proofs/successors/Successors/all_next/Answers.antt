-- `valuer_maps::Successors::all_next` meets its contract: the fold along the successors is that over all states.
use Rattle.std.proofs.Common.{rules, ◌∙◌}
use Rattle.std.proofs.Math.Bool.{true}
use Rattle.std.specs.Int.Bits.{bit_and, bit_or}
use Rattle.elements.specs.Words.{negated_code_in}
use Rattle.valuer_maps.specs.Code.{join_or_meet_code, first_code, step_code, next_code}
use Rattle.valuer_maps.specs.InRow.{next_in_row}
use Rattle.valuer_maps.proofs.successors.Successors.all_next.Goals as goal

pub returns : goal.returns
unfolding join_or_meet_code first_code step_code next_code
returns c =
    let a = c.args in
    let w = a.self.now.codes.now.words in
    let r = rw (← c.requires.0) at c.of.ensures in
    c.along.ensures bit_and (λ e v. bit_or (negated_code_in w e) v) (λ y e v z p. search rules)
    ∙ next_in_row w a.top a.self.now.model.bytes.now a.x.now a.q.0 r true
