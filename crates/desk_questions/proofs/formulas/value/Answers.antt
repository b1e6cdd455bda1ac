-- `desk_questions::value` meets its contract: by the range, then by the value and the facts on a held desk.
use Rattle.std.proofs.Common.{lt-ltb, le-ltb}
use Rattle.desk_questions.specs.Questions.{model_over, formula_on_model, propositions_are, held_value, value_state}
use Rattle.desk_questions.proofs.formulas.value.Goals as goal

pub returns-then-states-from : goal.returns-then-states-from
returns-then-states-from c =
    let (r, codes, lattice, model, formula, facts) = c.in_ok-a.ensures.ok in
    value_state c.in_ok-z.ensures.held c.args.f c.args.m _ r
    (le-ltb _ _ (rw (c.states.ensures, c.from.ensures, model) at c.if-states-from.true))

pub value-requires : goal.value-requires
value-requires c =
    let h = c.in_ok-z.ensures.held in
    let (r, codes, lattice, model, formula, facts) = c.in_ok-a.ensures.ok in
    let q = rw (c.states.ensures, c.from.ensures, model) at c.if-states-from.false in
    rw (codes, lattice, model, formula) (model_over h c.args.f c.args.m r, (formula_on_model h c.args.f c.args.m r).reads, q)

pub returns : goal.returns
returns c =
    let h = c.in_ok-z.ensures.held in
    let (r, codes, lattice, model, formula, facts) = c.in_ok-a.ensures.ok in
    held_value h c.args.f c.args.m _ _ _ r
    (lt-ltb _ _ (rw (c.states.ensures, c.from.ensures, model) at c.if-states-from.false))
    (rw (codes, lattice, model, formula) at c.value.ensures)
    (rw (propositions_are h c.args.f c.args.m r) (rw formula at facts))
