-- `desk_questions::whole` meets its contract: by the value and the facts on a held desk.
use Rattle.desk_questions.specs.Questions.{model_over, formula_on_model, propositions_are, held_whole}
use Rattle.desk_questions.proofs.formulas.whole.Goals as goal

pub whole-requires : goal.whole-requires
whole-requires c =
    let h = c.in_ok-z.ensures.held in
    let (r, codes, lattice, model, formula, facts) = c.in_ok-a.ensures.ok in
    rw (codes, lattice, model, formula) (model_over h c.args.f c.args.m r, (formula_on_model h c.args.f c.args.m r).reads)

pub returns : goal.returns
returns c =
    let h = c.in_ok-z.ensures.held in
    let (r, codes, lattice, model, formula, facts) = c.in_ok-a.ensures.ok in
    held_whole h c.args.f c.args.m _ _ r (rw (codes, lattice, model, formula) at c.whole.ensures)
    (rw (propositions_are h c.args.f c.args.m r) (rw formula at facts))
