-- `test_valuer::show_all` is safe and ends: each part is read as a formula.
use Rattle.std.proofs.Common.{refl}
use Rattle.theory.specs.Formula.{prop, negated, var, or, and, AX, EX, mu, nu, closed_under, over_props, nested_binders}
use Rattle.formula.specs.Bytes.{formula_reading}
use Rattle.test_valuer.proofs.show_all.Goals as goal

pub show-requires : goal.show-requires
unfolding formula_reading closed_under over_props nested_binders
show-requires g c = let p = c.requires in (p.0, (prop 0, rw p.1 refl))

pub show-requires-2 : goal.show-requires-2
unfolding formula_reading closed_under over_props nested_binders
show-requires-2 g c = let p = c.requires in (p.0, (negated 0, rw p.1 refl))

pub show-requires-3 : goal.show-requires-3
unfolding formula_reading closed_under over_props nested_binders
show-requires-3 g c = let p = c.requires in (p.0, (AX (prop 0), rw p.1 refl))

pub show-requires-4 : goal.show-requires-4
unfolding formula_reading closed_under over_props nested_binders
show-requires-4 g c = let p = c.requires in (p.0, (EX (prop 0), rw p.1 refl))

pub show-requires-5 : goal.show-requires-5
unfolding formula_reading closed_under over_props nested_binders
show-requires-5 g c = let p = c.requires in (p.0, (nu (and (prop 0) (AX (var 0))), rw p.1 refl))

pub show-requires-6 : goal.show-requires-6
unfolding formula_reading closed_under over_props nested_binders
show-requires-6 g c = let p = c.requires in (p.0, (mu (or (prop 0) (EX (var 0))), rw p.1 refl))

pub show-requires-7 : goal.show-requires-7
unfolding formula_reading closed_under over_props nested_binders
show-requires-7 g c = let p = c.requires in (p.0, (nu (mu (or (and (prop 0) (AX (var 1))) (AX (var 0)))), rw p.1 refl))
