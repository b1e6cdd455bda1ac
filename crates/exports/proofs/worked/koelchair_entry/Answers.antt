-- `exports::koelchair_entry` meets its contract: by the range of the states, then by the entry on a held desk.
use Rattle.std.proofs.Common.{refl, ◌∙◌, arith, lt-ltb, le-ltb}
use Rattle.theory.specs.TestLaws.{and_in, and_false}
use Rattle.desk_check.specs.Held.{entries_held}
use Rattle.desk_questions.specs.Questions.{whole_fits}
use Rattle.exports.specs.WorkedLaws.{worked_refused, worked_outside, state_below, worked_entry_lem, pairs_fit}
use Rattle.exports.proofs.worked.koelchair_entry.Goals as goal
use Rattle.exports.proofs.worked.koelchair_entry.Goals.{then-z-q1-via-then-z-q1, then-z-q1-via-else-z-q1+then-z-q2}

pub returns-in-Err : goal.returns-in-Err
returns-in-Err c = c.refused_entry.ensures ∙ worked_refused _ _ _ _ _ _ c.in-Err.ensures.examined refl

pub returns-then-z-q1 : goal.returns-then-z-q1
returns-then-z-q1 c =
    c.refused_entry-then-z-q1.ensures
    ∙ worked_outside c.in-Ok.ensures.held _ _
    (elim c.then-z-q1.branch [
      | then-z-q1-via-then-z-q1 w ↦ rw (le-ltb _ _ w.if-z-q1.true)
      | then-z-q1-via-else-z-q1+then-z-q2 w ↦ rw (le-ltb _ _ w.if-z-q2.true) (and_false _)
    ])

pub invariant_of-shown : goal.invariant_of-shown
invariant_of-shown c =
    let held = c.in-Ok.ensures.held in
    record { held = entries_held held _ c.models.ensures (whole_fits held _ c.whole_table.ensures) }

pub entry_of-e-requires : goal.entry_of-e-requires
entry_of-e-requires c =
    rw (c.models.ensures.first, c.models.ensures.second) (state_below c.in-Ok.ensures.held _ _ (and_in _ _ (lt-ltb _ _ c.if-z-q1.false) (lt-ltb _ _ c.if-z-q2.false)))

pub overflow_cast-result : goal.overflow_cast-result
overflow_cast-result c = omega (arith, pairs_fit c.in-Ok.ensures.held _ _ (rw (c.models.ensures.first, c.models.ensures.second) at c.entry_of-e.ensures))

pub returns-else-z-q2 : goal.returns-else-z-q2
returns-else-z-q2 c =
    worked_entry_lem c.in-Ok.ensures.held _ _ (and_in _ _ (lt-ltb _ _ c.if-z-q1.false) (lt-ltb _ _ c.if-z-q2.false)) c.whole_table.ensures
    (rw (c.models.ensures.first, c.models.ensures.second) at c.entry_of-e.ensures)
