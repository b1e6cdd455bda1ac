-- `valuer_maps::Successors::some_next` meets its contract: the fold along the successors is that over all states.
use Rattle.std.proofs.Common.{rules, ◌∙◌}
use Rattle.std.proofs.Math.Bool.{false}
use Rattle.std.specs.Int.Bits.{bit_and, bit_or}
use Rattle.elements.specs.Words.{code_in}
use Rattle.valuer_maps.specs.Code.{join_or_meet_code, first_code, step_code, next_code}
use Rattle.valuer_maps.specs.InRow.{next_in_row}
use Rattle.valuer_maps.proofs.successors.Successors.some_next.Goals as goal

pub returns : goal.returns
unfolding join_or_meet_code first_code step_code next_code
returns c =
    let a = c.args in
    let w = a.self.now.codes.now.words in
    c.along.ensures bit_or (λ e v. bit_and (code_in w e) v) (λ y e v z p. search rules)
    ∙ next_in_row w (code_in w a.self.now.lattice.top.0) a.self.now.model.bytes.now a.x.now a.q.0 c.of.ensures false
