-- `exports::koelchair_show` meets its contract: by the length of what show answers, then by the standing.
use Rattle.std.proofs.Common.{refl, arith}
use Rattle.exports.specs.NumbersLaws.{empty_named, whole_named}
use Rattle.exports.proofs.questions.koelchair_show.Goals as goal

pub returns-then-length-eq0 : goal.returns-then-length-eq0
returns-then-length-eq0 c = empty_named _ _ c.show-length.ensures c.if-length-eq0.true

pub returns-then-s : goal.returns-then-s
returns-then-s c = whole_named _ _ _ _ c.show-length.ensures refl (omega (arith, c.if-length-eq0.false)) (rw c.if-s.true)

pub returns-else-s : goal.returns-else-s
returns-else-s c = whole_named _ _ _ _ c.show-length.ensures refl (omega (arith, c.if-length-eq0.false)) (rw c.if-s.false)
