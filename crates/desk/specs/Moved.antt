-- The two calls that move the desk: open and step. Rests on Desk, Case, View, theory's Lists, casefile's Reading, rounds' Table.
--   opened: the desk after an accepted opening; fresh, stored, topped: its standing, its store and its tables
--   row_worked, changed_now: the row of F that a step works, and whether this round has changed anything by then
--   lowered_now: in how many entries the two tables differ by then
--   next_row, next_round, moved_on: the standing after a row; worked: the desk after it
--   stepped, step_answer: the desk after an accepted step, and what it answers
use Rattle.std.specs.Prelude.{ℕ, ◌+◌, Bool, false, cond, not, ◌||◌, List, eqb, replicate}
use Rattle.theory.specs.Lists.{written}
use Rattle.casefile.specs.Reading.{Content}
use Rattle.rounds.specs.Table.{row_written, row_changed}
use Rattle.desk.specs.Desk.{Standing, Desk, Reply, other_table}
use Rattle.desk.specs.Case.{ops, model1, model2, N1, N2, table_size, operator, differing_in, case_bytes}
use Rattle.desk.specs.View.{given_table, shown_table}

-- ---- open: 'makes an unsettled desk at round 0 and next row 0, the first table whole'. Of the lowerings: 'Open sets 0.'

abbrev pub fresh : Content → Standing
fresh c =
    record { states1 = N1 c; states2 = N2 c; round = 0; row = 0; changed = false; settled = false; second_whole = false; lowerings = 0 }

-- the gapless case at the store's front, and every byte after it as it was
abbrev pub stored : Content → List ℕ → List ℕ
stored c s = written 0 (case_bytes c) s

-- 'the first N1·N2 bytes of both tables top', and every byte after them as it was
abbrev pub topped : Content → List ℕ → List ℕ
topped c t = written 0 (replicate (table_size c) (ops c).top) t

unfoldable pub opened : Content → Desk → Desk
opened c d = record { standing = fresh c; store = stored c d.store; first = topped c d.first; second = topped c d.second }

-- ---- step: 'works row q1 of the next round, for all q2, in the table that is not whole, and writes nothing else in either table'

abbrev pub row_worked : Content → Desk → List ℕ
row_worked c d = row_written (model1 c) (model2 c) (operator c) (shown_table c d) d.standing.row (other_table d)

-- an earlier row of this round changed something, or this one does
abbrev pub changed_now : Content → Desk → Bool
changed_now c d = d.standing.changed || row_changed (model1 c) (model2 c) (operator c) (shown_table c d) d.standing.row

-- 'at a round's last row the two tables are compared' (request 107): in how many of all N1·N2 entries they differ, once the row is worked
abbrev pub lowered_now : Content → Desk → ℕ
lowered_now c d = differing_in c (shown_table c d) (given_table c (row_worked c d))

-- The standing after a row, where `changed` says whether this round has changed anything by now. After a row that is not the last, where 'Rows of an
-- unfinished round don't count':
abbrev pub next_row : Bool → Standing → Standing
next_row changed s =
    record {
      states1 = s.states1;
      states2 = s.states2;
      round = s.round;
      row = s.row + 1;
      changed = changed;
      settled = false;
      second_whole = s.second_whole;
      lowerings = s.lowerings;
    }

-- 'after the last row the new table becomes the whole one, the round goes up by 1, next row is 0', and it is settled 'when that round
-- equals the one before (by the standing no earlier row changed anything, and this row did not)'; `lowerings` is the count by now
abbrev pub next_round : Bool → ℕ → Standing → Standing
next_round changed lowerings s =
    record {
      states1 = s.states1;
      states2 = s.states2;
      round = s.round + 1;
      row = 0;
      changed = false;
      settled = not changed;
      second_whole = not s.second_whole;
      lowerings = lowerings;
    }

-- after the last row the count goes up by the entries in which the tables differ
abbrev pub moved_on : ℕ → Bool → ℕ → Standing → Standing
moved_on n1 changed lowered s = cond (eqb (s.row + 1) n1) (next_round changed (s.lowerings + lowered) s) (next_row changed s)

-- the desk with that row in the other table; the standing goes on to the next row or the next round
unfoldable pub worked : Content → Desk → Desk
worked c d =
    record {
      standing = moved_on (N1 c) (changed_now c d) (lowered_now c d) d.standing;
      store = d.store;
      first = cond d.standing.second_whole (row_worked c d) d.first;
      second = cond d.standing.second_whole d.second (row_worked c d);
    }

-- 'A settled desk answers Settled(T) again and is left unchanged.'
unfoldable pub stepped : Content → Desk → Desk
unfolding worked
stepped c d = cond d.standing.settled d (worked c d)

-- 'It answers Row; after the last row (..) Round(r), or Settled(T)', by the standing that the step leaves; 'Row, Round and Settled carry' its count
abbrev pub step_answer : Standing → Reply
step_answer s =
    cond s.settled (Reply.Settled s.round s.lowerings) (cond (eqb s.row 0) (Reply.Round s.round s.lowerings) (Reply.Row s.lowerings))
