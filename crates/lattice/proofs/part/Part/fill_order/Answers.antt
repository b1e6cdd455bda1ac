-- `lattice::part::Part::fill_order` meets its contract: by the two forms of a part. Assumes nothing.
use Rattle.std.proofs.Common.{◌≡◌, sym, ap, ◌∙◌, arith, rules, length, get_or}
use Rattle.lattice.specs.Conditions.{ExplicitForm}
use Rattle.lattice.specs.Form.{part_panel, part_explicit, form_explicit}
use Rattle.lattice.specs.Rows.{bytes_slice, down_slice}
use Rattle.lattice.specs.Parts.{panel_bytes, panel_down, explicit_bytes, explicit_down}
use Rattle.lattice.proofs.part.Part.fill_order.Goals as goal
use Rattle.lattice.proofs.part.Part.fill_order.Goals.{Then-is_panel, Else-is_panel}

panel_size : (c : Then-is_panel) → length c.args.down.now ≡ 27
panel_size c = c.requires ∙ ap (λ P. P.size) (part_panel _ (sym c.is_panel.ensures ∙ c.if-is_panel.true))

pub fill-requires : goal.fill-requires
fill-requires c = rw (panel_size (goal.at.fill-requires c).Then-is_panel) (omega arith, panel_bytes _ (search rules) c.order-order.ensures)

pub returns-then-is_panel : goal.returns-then-is_panel
returns-then-is_panel c =
    let e = panel_size (goal.at.returns-then-is_panel c).Then-is_panel in
    rw (c.fill.auto.down ∙ c.requires) (panel_down _ _ _ (sym c.is_panel.ensures ∙ c.if-is_panel.true) c.order-order.ensures (rw e at c.fill.ensures))

explicit_size : (c : Else-is_panel) → length c.args.down.now ≡ get_or c.args.self.bytes.now 0 0
explicit_size c = c.requires ∙ ap (λ P. P.size) (part_explicit _ (sym c.is_panel.ensures ∙ c.if-is_panel.false))

explicit : (c : Else-is_panel) → ExplicitForm (length c.args.down.now) c.args.self.bytes.now
explicit c = rw (explicit_size c) (form_explicit _ c.args.self.form (sym c.is_panel.ensures ∙ c.if-is_panel.false))

pub slice_bounds-order-count : goal.slice_bounds-order-count
slice_bounds-order-count c = omega (arith, (explicit (goal.at.slice_bounds-order-count c).Else-is_panel).exact)

pub slice_bounds-order-start : goal.slice_bounds-order-start
slice_bounds-order-start c = omega (arith, (explicit (goal.at.slice_bounds-order-start c).Else-is_panel).exact)

pub fill-requires-2 : goal.fill-requires-2
fill-requires-2 c = let w = explicit (goal.at.fill-requires-2 c).Else-is_panel in (w.most, bytes_slice _ _ _ (explicit_bytes _ _ w))

pub returns : goal.returns
returns c =
    let q = (goal.at.returns c).Else-is_panel in
    rw (c.fill-2.auto.down ∙ c.requires) (explicit_down _ _ _ (sym c.is_panel.ensures ∙ c.if-is_panel.false) (explicit_size q) (down_slice _ _ _ _ c.fill-2.ensures))
