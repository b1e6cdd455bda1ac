-- `desk_questions::show` meets its contract: a part of the whole table of a held desk.
use Rattle.desk_questions.specs.Questions.{held-show}
use Rattle.desk_questions.proofs.tables.show.Goals as goal

pub returns-in-Ok : goal.returns-in-Ok
returns-in-Ok c = held-show c.in-Ok.ensures.held _ _ c.table_size.ensures.0 c.whole_table-in-Ok.ensures
