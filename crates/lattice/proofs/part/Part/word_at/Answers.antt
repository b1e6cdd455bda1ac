-- `lattice::part::Part::word_at` meets its contract: an element's code, or its complement's. Assumes nothing.
use Rattle.std.proofs.Common.{◌≡◌, ℕ, ap, ◌∙◌, arith, get_or}
use Rattle.elements.specs.declared.Element.{Element}
use Rattle.theory.specs.Part.{element}
use Rattle.lattice.specs.Reading.{lattice_of}
use Rattle.lattice.specs.Accepted.{formed}
use Rattle.lattice.specs.Parts.{element-within}
use Rattle.lattice.specs.Filling.{words_low, words_high}
use Rattle.lattice.proofs.part.Part.word_at.Goals as goal
use Rattle.lattice.proofs.part.Part.word_at.Goals.{then-k-lt-COMPLEMENTS, else-k-lt-COMPLEMENTS}

pub complement-a-requires : goal.complement-a-requires
complement-a-requires c = rw c.element_of-e.ensures (element-within _ _ _ (formed _ c.args.self.form) c.size.ensures.is).0

pub bounds-codes-from : goal.bounds-codes-from
bounds-codes-from c =
    let i = (element-within _ _ c.args.k (formed _ c.args.self.form) c.size.ensures.is).0 in
    elim c.if-k-lt-COMPLEMENTS.branch [
      | then-k-lt-COMPLEMENTS w ↦ omega (arith, i, c.requires, c.from.ensures, c.element_of-e.ensures, ap (λ (e : Element). e.0) w.a-is)
      | else-k-lt-COMPLEMENTS w ↦ omega (arith, c.requires, c.from.ensures, w.complement-a.ensures.inside, ap (λ (e : Element). e.0) w.a-is)
    ]

pub returns : goal.returns
returns c =
    let codes = c.args.codes.now in
    let P = lattice_of c.args.self.bytes.now in
    let e : c.element_of-e.result.0 ≡ element P.size c.args.k = c.element_of-e.ensures ∙ ap (λ (n : ℕ). element n c.args.k) c.size.ensures.is in
    elim c.if-k-lt-COMPLEMENTS.branch [
      | then-k-lt-COMPLEMENTS w ↦ ap (λ (i : ℕ). get_or codes i 0) (c.from.ensures ∙ ap (λ (e : Element). e.0) w.a-is ∙ e) ∙ words_low P codes _ w.if-k-lt-COMPLEMENTS.true
      | else-k-lt-COMPLEMENTS w ↦ ap (λ (i : ℕ). get_or codes i 0) (c.from.ensures ∙ ap (λ (e : Element). e.0) w.a-is ∙ w.complement-a.ensures.is ∙ ap P.complement e) ∙ words_high P codes _ w.if-k-lt-COMPLEMENTS.false
    ]
