-- `lattice::check` meets its contract: test by test. Assumes nothing.
use Rattle.std.proofs.Common.{sym, ◌∙◌, rules}
use Rattle.lattice.proofs.CheckLaws.{form_refused, form_answered, check_refused, check_words}
use Rattle.lattice.proofs.check.Goals as goal

pub returns-then-not-has_form : goal.returns-then-not-has_form
returns-then-not-has_form c = form_refused _ _ (sym c.has_form.ensures ∙ c.if-not-has_form.true)

pub returns-then-not-is_lattice : goal.returns-then-not-is_lattice
returns-then-not-is_lattice c =
    let order = c.new-order.ensures in
    check_refused _ (sym c.has_form.ensures ∙ c.if-not-has_form.false) (search rules) (search rules) c.fill_order.ensures (rw order at c.irreducibles-mask.ensures) (rw order at c.fill_codes.ensures)
    (rw (order, c.new-codes.ensures) at (sym c.is_lattice.ensures ∙ c.if-not-is_lattice.true)) _ (rw order at c.reason.ensures) _

pub check_complements-requires-clause-lattice : goal.check_complements-requires-clause-lattice
check_complements-requires-clause-lattice c =
    let order = c.new-order.ensures in
    rw c.new-codes.ensures
    (check_words _ (sym c.has_form.ensures ∙ c.if-not-has_form.false) (search rules) (search rules) c.fill_order.ensures (rw order at c.irreducibles-mask.ensures) (rw order at c.fill_codes.ensures)
    (rw (order, c.new-codes.ensures) at (sym c.is_lattice.ensures ∙ c.if-not-is_lattice.false)))

pub returns : goal.returns
returns c = form_answered _ (sym c.has_form.ensures ∙ c.if-not-has_form.false) c.check_complements.ensures
