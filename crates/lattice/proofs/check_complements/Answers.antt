-- `lattice::check_complements` meets its contract: test by test. Assumes nothing.
use Rattle.std.proofs.Common.{sym, ◌∙◌, arith}
use Rattle.lattice.specs.Accepted.{formed}
use Rattle.lattice.specs.Filling.{top_some, bottom_some, answered-involutive, answered-antitone, answered-accepted}
use Rattle.lattice.proofs.check_complements.Goals as goal

pub returns-then-not-is_involutive : goal.returns-then-not-is_involutive
returns-then-not-is_involutive c = answered-involutive (formed _ c.args.part.form) c.requires.lattice _ (sym c.is_involutive.ensures ∙ c.if-not-is_involutive.true)

pub returns-then-not-is_antitone : goal.returns-then-not-is_antitone
returns-then-not-is_antitone c = answered-antitone (formed _ c.args.part.form) c.requires.lattice c.fill_words.ensures (sym c.is_antitone.ensures ∙ c.if-not-is_antitone.true)

pub unwrap-top-requires : goal.unwrap-top-requires
unwrap-top-requires c = top_some (formed _ c.args.part.form) c.requires.lattice (rw c.requires.size at c.find.ensures)

pub unwrap-bottom-requires : goal.unwrap-bottom-requires
unwrap-bottom-requires c = bottom_some (formed _ c.args.part.form) c.requires.lattice (rw c.requires.size at c.find-2.ensures)

pub overflow_cast-result : goal.overflow_cast-result
overflow_cast-result c = omega (arith, c.args.codes.most, (c.find.ensures.hit _ c.unwrap-top.ensures).0)

pub overflow_cast-result-2 : goal.overflow_cast-result-2
overflow_cast-result-2 c = omega (arith, c.args.codes.most, (c.find-2.ensures.hit _ c.unwrap-bottom.ensures).0)

pub returns : goal.returns
returns c =
    let t = rw (c.requires.size, c.unwrap-top.ensures) at c.find.ensures in
    let b = rw (c.requires.size, c.unwrap-bottom.ensures) at c.find-2.ensures in
    answered-accepted (formed _ c.args.part.form) c.requires.lattice c.fill_words.ensures _
    (sym c.is_involutive.ensures ∙ c.if-not-is_involutive.false)
    (sym c.is_antitone.ensures ∙ c.if-not-is_antitone.false)
    c.size.ensures.is t b
