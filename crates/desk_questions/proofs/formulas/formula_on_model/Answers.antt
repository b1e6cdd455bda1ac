-- `desk_questions::formula_on_model` meets its contract: by the range, then by the parts of a held desk.
use Rattle.std.proofs.Common.{sym}
use Rattle.desk_questions.specs.Questions.{formula_on_model, formula_reads, whole_outside, value_outside}
use Rattle.desk_questions.proofs.formulas.formula_on_model.Goals as goal

pub invariant_of-model : goal.invariant_of-model
invariant_of-model c =
    let p = formula_on_model c.requires c.args.f c.args.m (sym c.if-not-in_range.ensures) in
    record { shape = rw (c.part.ensures, c.case-case.ensures) p.shape }

pub facts-requires : goal.facts-requires
facts-requires c =
    rw (c.part-formula.ensures, c.case-case.ensures) (formula_reads c.requires c.args.f c.args.m (sym c.if-not-in_range.ensures))

pub returns-then-not-in_range : goal.returns-then-not-in_range
returns-then-not-in_range c =
    let r = sym c.if-not-in_range.ensures in
    record { ok = tt; no_whole = whole_outside c.requires _ _ r; no_value = λ q. value_outside c.requires _ _ q r }
