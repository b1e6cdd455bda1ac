-- What the steps that are left in a round do, and that demand 3 goes through them. Rests on RoundLeft, Stepping, Listed and rounds' Rest.
-- Here stand the definitions; the theorems are in proofs/RoundLeftLaws.
--   ended, by ended_by and ended_from: the desk after the last row of a round
use Prim.Native.Nat.{ℕ, ◌+◌, ◌-◌}
use Rattle.std.specs.Prelude.{Bool, cond, ◌||◌}
use mathlib.Core.List.{List}
use Rattle.casefile.specs.Reading.{Content}
use Rattle.rounds.specs.Rest.{rows_from, rows_changed}
use Rattle.desk.specs.Desk.{Standing, Desk, whole_table, other_table}
use Rattle.desk.specs.Case.{model1, model2, N1, operator, differing_in}
use Rattle.desk.specs.View.{given_table}
use Rattle.desk.specs.Moved.{row_worked, changed_now, next_row, next_round}

-- the desk d with the standing x, and `out` for the table that is not whole
abbrev pub with_other : Desk → Standing → List ℕ → Desk
with_other d x out = record { standing = x; store = d.store; first = cond d.standing.second_whole out d.first; second = cond d.standing.second_whole d.second out }

module _ (c : Content) where
  -- the desk after a row that is not the last
  abbrev pub row_done : Desk → Desk
  row_done d = with_other d (next_row (changed_now c d) d.standing) (row_worked c d)

  -- m rows from the next one on, and one of them differs
  abbrev pub rows : ℕ → (ℕ → ℕ → ℕ) → ℕ → List ℕ → List ℕ
  rows m S q out = rows_from (model1 c) (model2 c) (operator c) S m q out

  abbrev pub differ : ℕ → (ℕ → ℕ → ℕ) → ℕ → Bool
  differ m S q = rows_changed (model1 c) (model2 c) (operator c) S m q

  -- the desk d after m rows from row q on are worked from the table `whole` into `other`, the last of the round among them, where `before` says whether the
  -- rows before have changed anything
  unfoldable pub ended_from : ℕ → Desk → Bool → ℕ → List ℕ → List ℕ → Desk
  ended_from m d before q whole other =
      let out = rows m (given_table c whole) q other in
      with_other d (next_round (before || differ m (given_table c whole) q) (d.standing.lowerings + differing_in c (given_table c whole) (given_table c out)) d.standing) out

  abbrev pub ended_by : ℕ → Desk → Desk
  ended_by m d = ended_from m d d.standing.changed d.standing.row (whole_table d) (other_table d)

  abbrev pub ended : Desk → Desk
  ended d = ended_by (N1 c - d.standing.row) d
