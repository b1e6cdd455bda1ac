-- `lattice::part::has_form` meets its contract: each test that fails refutes the form, and where all pass the last one decides it. Assumes nothing.
use Rattle.std.proofs.Common.{◌≡◌, ◌+◌, ◌*◌, refl, sym, ◌∙◌, arith, le_refl, length, get_or, ltb}
use borrow.Author.Tests.{eqb-true}
use Rattle.theory.specs.Test.{all_below}
use Rattle.theory.specs.TestLaws.{not_passed}
use Rattle.theory.proofs.Parts.{range_all}
use Rattle.lattice.specs.Conditions.{ExplicitForm}
use Rattle.lattice.specs.Form.{form_panel, form_least, form-out, form-complements, form-last}
use Rattle.lattice.proofs.part.has_form.Goals as goal
use Rattle.lattice.proofs.part.has_form.Goals.{After-below, then-n-lt1-via-then-n-lt1, then-n-lt1-via-else-n-lt1+then-n-gt64, then-n-lt1-via-else-n-lt1+else-n-gt64+then-part-n}

pub returns-then-is_empty : goal.returns-then-is_empty
returns-then-is_empty c = sym (not_passed _ (λ f. omega (arith, form_least _ f, eqb-true (length c.args.part.now) 0 (sym c.is_empty.ensures ∙ c.if-is_empty.true))))

pub returns-then-is_panel : goal.returns-then-is_panel
returns-then-is_panel c = sym (form_panel _ (sym c.is_panel.ensures ∙ c.if-is_panel.true))

pub returns-then-n-lt1 : goal.returns-then-n-lt1
returns-then-n-lt1 c =
    sym (not_passed _ (λ f.
    let w : ExplicitForm c.from-n.result c.args.part.now = form-out _ c.from-n.result (sym c.is_panel.ensures ∙ c.if-is_panel.false) c.from-n.ensures f in
    elim c.then-n-lt1.branch [
      | then-n-lt1-via-then-n-lt1 v ↦ omega (arith, v.if-n-lt1.true, w.some)
      | then-n-lt1-via-else-n-lt1+then-n-gt64 v ↦ omega (arith, v.if-n-gt64.true, w.most)
      | then-n-lt1-via-else-n-lt1+else-n-gt64+then-part-n v ↦ v.if-part-n.true w.exact
    ]))

-- the test of the complements
complements : (c : After-below) → c.below.result ≡ all_below c.from-n.result (λ i. ltb (get_or c.args.part.now (1 + i) 0) (get_or c.args.part.now 0 0))
complements c = c.below.ensures ∙ range_all (λ x. ltb x (get_or c.args.part.now 0 0)) c.args.part.now 1 (1 + c.from-n.result) c.from-n.result refl (omega (arith, c.if-part-n.false))

pub returns-then-below : goal.returns-then-below
returns-then-below c =
    c.below-then-below.ensures
    ∙ range_all (λ x. ltb x 2) c.args.part.now (1 + c.from-n.result) (length c.args.part.now) (c.from-n.result * c.from-n.result) (sym c.if-part-n.false) (le_refl _)
    ∙ sym (form-last _ _ (sym c.is_panel.ensures ∙ c.if-is_panel.false) c.from-n.ensures c.if-n-lt1.false c.if-n-gt64.false c.if-part-n.false (sym (complements (goal.at.returns-then-below c).After-below) ∙ c.if-below.true))

pub returns-else-below : goal.returns-else-below
returns-else-below c =
    c.if-below.false ∙ sym (form-complements _ _ (sym c.is_panel.ensures ∙ c.if-is_panel.false) c.from-n.ensures (sym (complements (goal.at.returns-else-below c).After-below) ∙ c.if-below.false))
