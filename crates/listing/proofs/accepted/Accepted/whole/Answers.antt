-- `listing::Accepted::whole` meets its contract: by that of `valuer::whole`.
use Rattle.std.proofs.Common.{arith}
use Rattle.listing.specs.Accepting.{accepted_case, InCase, model_over, formula_on_model, whole_is}
use Rattle.listing.proofs.accepted.Accepted.whole.Goals as goal

pub invariant_of-case : goal.invariant_of-case
invariant_of-case c = record { placed = (accepted_case c.args.self.now.answered).placed }

pub overflow_add-f : goal.overflow_add-f
overflow_add-f c =
    let k = c.args.self.now in
    let h : InCase k.bytes.now k.sizes k.codes.now.words c.args.f c.args.m = record { case = accepted_case k.answered; formula = c.requires.0; model = c.requires.1 } in
    let v = formula_on_model h in
    omega (arith, v.formula_in_lem, v.few)

pub part-formula-requires : goal.part-formula-requires
part-formula-requires c =
    let k = c.args.self.now in
    let h : InCase k.bytes.now k.sizes k.codes.now.words c.args.f c.args.m = record { case = accepted_case k.answered; formula = c.requires.0; model = c.requires.1 } in
    (formula_on_model h).formula_in_lem

pub whole-requires : goal.whole-requires
whole-requires c =
    let k = c.args.self.now in
    let h : InCase k.bytes.now k.sizes k.codes.now.words c.args.f c.args.m = record { case = accepted_case k.answered; formula = c.requires.0; model = c.requires.1 } in
    rw (c.algebra.ensures.0, c.algebra.ensures.1, c.model.ensures, c.part-formula.ensures) (model_over h, (formula_on_model h).reads)

pub returns : goal.returns
returns c =
    let k = c.args.self.now in
    let h : InCase k.bytes.now k.sizes k.codes.now.words c.args.f c.args.m = record { case = accepted_case k.answered; formula = c.requires.0; model = c.requires.1 } in
    whole_is h _ (rw (c.algebra.ensures.0, c.algebra.ensures.1, c.model.ensures, c.part-formula.ensures) at c.whole.ensures)
