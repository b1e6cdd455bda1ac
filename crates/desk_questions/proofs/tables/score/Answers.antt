-- `desk_questions::score` meets its contract: by the score of the whole table of a held desk.
use Rattle.desk_check.specs.Held.{entries_held}
use Rattle.desk_questions.specs.Questions.{whole_fits, held_score}
use Rattle.desk_questions.proofs.tables.score.Goals as goal

pub invariant_of-shown : goal.invariant_of-shown
invariant_of-shown c =
    let held = c.in_ok-z.ensures.held in
    record { held = entries_held held _ c.models.ensures (whole_fits held _ c.whole_table.ensures) }

pub returns : goal.returns
returns c = held_score c.in_ok-z.ensures.held _ _ c.whole_table.ensures (rw (c.models.ensures.first, c.models.ensures.second) at c.score.ensures)
