-- The code's standing and desk, read as the desk's. Rests on desk's Desk.
use Rattle.std.specs.Prelude.{ℕ, List}
use Rattle.desk.specs.Desk.{Desk, Standing as DeskStanding}
use Rattle.desk_check.specs.declared.Standing.{Standing}
use Rattle.desk_check.specs.declared.Desk.{Desk as CodeDesk}

abbrev pub standing_of : Standing → DeskStanding
standing_of s =
    record {
      states1 = s.states1;
      states2 = s.states2;
      round = s.round;
      row = s.row;
      changed = s.changed;
      settled = s.settled;
      second_whole = s.second_whole;
      lowerings = s.lowerings;
    }

abbrev pub desk_of : Standing → List ℕ → List ℕ → List ℕ → Desk
desk_of s store first second = record { standing = standing_of s; store = store; first = first; second = second }

abbrev pub desk_in : CodeDesk → Desk
desk_in d = desk_of d.standing d.store.now d.first.now d.second.now
