-- `lattice::part::Part::size` meets its contract: by the two forms of a part. Assumes nothing.
use Rattle.std.proofs.Common.{sym, ap, ◌∙◌, arith}
use Rattle.lattice.specs.Form.{part_panel, part_explicit, form_explicit}
use Rattle.lattice.proofs.part.Part.size.Goals as goal

pub returns-then-is_panel-clause-is : goal.returns-then-is_panel-clause-is
returns-then-is_panel-clause-is c = sym (ap (λ P. P.size) (part_panel _ (sym c.is_panel.ensures ∙ c.if-is_panel.true)))

pub bounds-self-0 : goal.bounds-self-0
bounds-self-0 c = omega (arith, form_explicit _ c.args.self.form (sym c.is_panel.ensures ∙ c.if-is_panel.false))

pub returns-clause-is : goal.returns-clause-is
returns-clause-is c = sym (ap (λ P. P.size) (part_explicit _ (sym c.is_panel.ensures ∙ c.if-is_panel.false)))

pub returns-clause-most : goal.returns-clause-most
returns-clause-most c = (form_explicit _ c.args.self.form (sym c.is_panel.ensures ∙ c.if-is_panel.false)).most
