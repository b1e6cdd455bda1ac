-- `desk_check::Desk::examine` meets its contract: too short, not to be read, a rule broken, or held.
use Rattle.std.proofs.Common.{◌≡◌, refl, sym, false, arith, length-take-le}
use Rattle.casefile.proofs.Caller.{when_accepted, when_refused}
use Rattle.desk.specs.Refused.{short, rules_obeyed}
use Rattle.desk.specs.RulesLaws.{Long}
use Rattle.desk.proofs.RulesLaws.{long-enough}
use Rattle.desk_check.specs.Read.{desk_in}
use Rattle.desk_check.specs.Held.{short-examined, unread_examined, spoiled-examined, held-examined, case_few, when_held, refused_call}
use Rattle.desk_check.proofs.Desk.examine.Goals as goal
use Rattle.desk_check.proofs.Desk.examine.Goals.{Else-too_short}

-- the desk is long enough
not_short : (c : Else-too_short) → short (desk_in c.args.self) ≡ false
unfolding short
not_short c = sym c.if-too_short.ensures

lengths : (c : Else-too_short) → Long (desk_in c.args.self)
lengths c = long-enough _ (not_short c)

pub returns-then-too_short : goal.returns-then-too_short
unfolding short
returns-then-too_short c =
    let e = short-examined _ _ (sym c.if-too_short.ensures) in
    record { examined = e; held = tt; refused = λ k o. refused_call k _ _ _ _ o e refl }

pub slice_bounds-check-end : goal.slice_bounds-check-end
slice_bounds-check-end c = omega (arith, length-take-le 24576 c.args.self.store.now (lengths (goal.at.slice_bounds-check-end c).Else-too_short).store_long)

pub obeys-requires : goal.obeys-requires
obeys-requires c =
    let e = lengths (goal.at.obeys-requires c).Else-too_short in
    let f = case_few (when_accepted _ _ _ _ c.check.ensures c.in-Ok.is) in
    (omega (arith, f, e.first_long), omega (arith, f, e.second_long))

pub returns-in_default : goal.returns-in_default
returns-in_default c =
    let e = unread_examined _ _ _ (not_short (goal.at.returns-in_default c).Else-too_short) (when_refused _ _ _ _ c.check.ensures c.in_default.is) in
    record { examined = e; held = tt; refused = λ k o. refused_call k _ _ _ _ o e refl }

pub returns-then-obeys : goal.returns-then-obeys
unfolding rules_obeyed
returns-then-obeys c =
    let e = held-examined _ _ _ (not_short (goal.at.returns-then-obeys c).Else-too_short) (when_accepted _ _ _ _ c.check.ensures c.in-Ok.is) _ c.obeys.ensures c.if-obeys.true in
    record { examined = e; held = when_held _ _ _ _ e refl; refused = tt }

pub returns-else-obeys : goal.returns-else-obeys
unfolding rules_obeyed
returns-else-obeys c =
    let e = spoiled-examined _ _ _ (not_short (goal.at.returns-else-obeys c).Else-too_short) (when_accepted _ _ _ _ c.check.ensures c.in-Ok.is) _ c.obeys.ensures c.if-obeys.false in
    record { examined = e; held = tt; refused = λ k o. refused_call k _ _ _ _ o e refl }
