-- `valuer::value` meets its contract: one of the values, decoded.
use Rattle.std.proofs.Common.{ℕ, ap, ◌∙◌, get_or}
use Rattle.elements.specs.Words.{decode_in}
use Rattle.valuer.proofs.Arms.{part_at_lem}
use Rattle.valuer.proofs.value.Goals as goal

pub returns : goal.returns
returns c =
    let a = c.args in
    part_at_lem c.requires.0 c.valued-x.ensures a.q.0 _ c.requires.2
    (c.decode.ensures ∙ ap (λ (i : ℕ). decode_in a.a.now.codes.now.words (get_or c.valued-x.result i 0)) c.from.ensures)
