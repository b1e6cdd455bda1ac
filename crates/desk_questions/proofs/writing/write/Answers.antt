-- `desk_questions::write` meets its contract: by the length of the case and of the buffer, then by the writing.
use Rattle.desk_questions.specs.Writing.{held_write, write_short}
use Rattle.desk_questions.proofs.writing.write.Goals as goal

pub returns-then-out-n : goal.returns-then-out-n
returns-then-out-n c = write_short c.in_ok-examine.ensures.held _ _ (rw c.case-case.ensures at c.gapless_length-n.ensures) c.if-out-n.true

pub returns : goal.returns
returns c =
    held_write c.in_ok-examine.ensures.held _ _ _ (rw c.case-case.ensures at c.gapless_length-n.ensures) c.if-out-n.false (rw c.case-case.ensures at c.write.ensures)
