-- `lattice::reason` meets its contract: test by test. Assumes nothing.
use Rattle.std.proofs.Common.{◌≡◌, ℕ, true, false, sym, ap, ◌∙◌, length}
use Rattle.lattice_codes.specs.Tests.{words_in, all_of, closed, is_word}
use Rattle.lattice.specs.ByWords.{reason_by}
use Rattle.lattice.proofs.reason.Goals as goal
use Rattle.lattice.proofs.reason.Goals.{else-is_closed-via-then-is_closed+else-is_some, else-is_closed-via-else-is_closed}

pub returns-then-not-is_ordered : goal.returns-then-not-is_ordered
unfolding reason_by
returns-then-not-is_ordered c = rw (sym c.is_ordered.ensures ∙ c.if-not-is_ordered.true)

pub returns-then-is_some : goal.returns-then-is_some
unfolding reason_by
returns-then-is_some c =
    let n = length c.args.order.words.now in
    let w = words_in c.args.order.words.now in
    let z : closed n w (all_of n) false ≡ true = ap (λ (m : ℕ). closed n w m false) (sym c.all_of-all.ensures) ∙ sym c.is_closed.ensures ∙ c.if-is_closed.true in
    let y : is_word n w (all_of n) ≡ true = ap (is_word n w) (sym c.all_of-all.ensures) ∙ c.find.ensures.word ∙ sym c.is_some.ensures ∙ c.if-is_some.true in
    rw (sym c.is_ordered.ensures ∙ c.if-not-is_ordered.false, z, y)

pub returns : goal.returns
unfolding reason_by
returns c =
    let n = length c.args.order.words.now in
    let w = words_in c.args.order.words.now in
    let o = sym c.is_ordered.ensures ∙ c.if-not-is_ordered.false in
    let k : closed n w (all_of n) false ≡ c.is_closed.result = ap (λ (m : ℕ). closed n w m false) (sym c.all_of-all.ensures) ∙ sym c.is_closed.ensures in
    elim c.else-is_closed.branch [
      | else-is_closed-via-then-is_closed+else-is_some v ↦
          (let z : closed n w (all_of n) false ≡ true = k ∙ v.if-is_closed.true in
          let y : is_word n w (all_of n) ≡ false = ap (is_word n w) (sym c.all_of-all.ensures) ∙ v.find.ensures.word ∙ sym v.is_some.ensures ∙ v.if-is_some.false in
          rw (o, z, y))
      | else-is_closed-via-else-is_closed v ↦ (let z : closed n w (all_of n) false ≡ false = k ∙ v.if-is_closed.false in rw (o, z))
    ]
