-- `exports::koelchair_sizes` meets its contract: by what the examination answered.
use Rattle.std.proofs.Common.{sym, ◌∙◌}
use Rattle.exports.specs.NumbersLaws.{refused_sized, held-sized}
use Rattle.exports.proofs.held.koelchair_sizes.Goals as goal

pub returns-in-Err : goal.returns-in-Err
returns-in-Err c = rw (c.number.ensures, c.part.ensures) (refused_sized _ _ (sym c.in-Err.is ∙ c.sizes.ensures))

pub returns-in-Ok : goal.returns-in-Ok
returns-in-Ok c = held-sized _ _ (sym c.in-Ok.is ∙ c.sizes.ensures)
