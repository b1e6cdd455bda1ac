-- `desk_questions::judge` meets its contract: by the table's length and bytes, then by the test.
use Rattle.std.proofs.Common.{sym, ◌∙◌, arith, eq-eqb, ne_eqb}
use Rattle.desk_check.specs.Held.{entries_held}
use Rattle.desk_questions.specs.Questions.{held_judge, judge_long, judge_high}
use Rattle.desk_questions.proofs.tables.judge.Goals as goal
use Rattle.desk_questions.proofs.tables.judge.Goals.{then-table-n-via-then-table-n, then-table-n-via-else-table-n+then-not-table_obeys}

pub returns-then-table-n : goal.returns-then-table-n
returns-then-table-n c =
    let held = c.in_ok-z.ensures.held in
    let n = c.table_size-n.ensures.0 in
    elim c.then-table-n.branch [
      | then-table-n-via-then-table-n w ↦ judge_long held _ _ n (ne_eqb _ _ w.if-table-n.true)
      | then-table-n-via-else-table-n+then-not-table_obeys w ↦ judge_high held _ _ n (eq-eqb _ _ w.if-table-n.false) (sym w.table_obeys.ensures ∙ w.if-not-table_obeys.true)
    ]

pub invariant_of-judged : goal.invariant_of-judged
invariant_of-judged c = record { held = entries_held c.in_ok-z.ensures.held c.args.table.now c.models.ensures (omega (arith, c.table_size-n.ensures.0, c.if-table-n.false)) }

pub returns : goal.returns
returns c =
    held_judge c.in_ok-z.ensures.held _ _ _ c.table_size-n.ensures.0 (eq-eqb _ _ c.if-table-n.false)
    (sym c.table_obeys.ensures ∙ c.if-not-table_obeys.false) (rw (c.models.ensures.first, c.models.ensures.second) at c.is_post_fixed.ensures)
