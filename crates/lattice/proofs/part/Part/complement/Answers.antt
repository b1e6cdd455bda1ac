-- `lattice::part::Part::complement` meets its contract: by the two forms of a part. Assumes nothing.
use Rattle.std.proofs.Common.{sym, ◌∙◌}
use Rattle.lattice.specs.Accepted.{formed}
use Rattle.lattice.specs.Form.{panel_complement, explicit_complement}
use Rattle.lattice.proofs.part.Part.complement.Goals as goal

pub overflow_sub-result : goal.overflow_sub-result
overflow_sub-result c = (panel_complement _ _ (sym c.is_panel.ensures ∙ c.if-is_panel.true) c.requires).0

pub returns-then-is_panel : goal.returns-then-is_panel
returns-then-is_panel c =
    let e = (panel_complement _ _ (sym c.is_panel.ensures ∙ c.if-is_panel.true) c.requires).1 in
    record { is = e; inside = rw e ((formed _ c.args.self.form).inside _ c.requires) }

pub bounds-self-from : goal.bounds-self-from
bounds-self-from c = rw c.from.ensures (explicit_complement _ _ c.args.self.form (sym c.is_panel.ensures ∙ c.if-is_panel.false) c.requires).0

pub returns : goal.returns
returns c =
    let e = (explicit_complement _ _ c.args.self.form (sym c.is_panel.ensures ∙ c.if-is_panel.false) c.requires).1 in
    record { is = rw c.from.ensures e; inside = rw (c.from.ensures, e) ((formed _ c.args.self.form).inside _ c.requires) }
