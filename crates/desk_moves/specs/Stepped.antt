-- What step does, from the row that it worked. Rests on desk_check's Held, desk's Moved, entries' Table and rounds' Table.
--   case_row, case_row_differs, Workable, Comparable, Movable, differing_for, moved_by: the terms of the code's contracts
--   row_out, row_differs: the same from two model parts; workable, movable: a held desk meets what these ask
--   leaves: what a step gives, where the standing is known by an equation
--   settled_step, settled_left: a step of a settled desk
--   into-first, into-second: a step that works a row into the first table, or into the second
use Rattle.std.specs.Prelude.{ℕ, ◌*◌, ◌-◌, ◌≤◌, ◌<◌, ◌≡◌, Bool, true, false, ◌||◌, List, [], length, get_or, take}
use Rattle.std.proofs.Math.Path.{refl, ap}
use Rattle.std.proofs.Common.{◌∙◌, arith}
use Rattle.std.proofs.Math.Bool.{cond}
use Rattle.theory.specs.Part.{model_of}
use Rattle.theory.specs.Simulation.{F}
use Rattle.elements.specs.declared.Lattice.{Lattice}
use Rattle.elements.specs.Words.{ops_in, Coded}
use Rattle.model.specs.Places.{prod_le}
use Rattle.casefile.specs.declared.Sizes.{Sizes}
use Rattle.casefile.specs.Directory.{part_count, part_at}
use Rattle.casefile.specs.Conditions.{Placed}
use Rattle.entries.specs.Table.{table_of, Shaped}
use Rattle.rounds.specs.Table.{row_written, row_changed, bytes_differing}
use Rattle.desk.specs.Desk.{Desk, Standing, Call, Reply, whole_table}
use Rattle.desk.specs.Case.{lattice_size, model1, model2, N1, N2, operator, table_size}
use Rattle.desk.specs.View.{shown_table}
use Rattle.desk.specs.Moved.{row_worked, changed_now, lowered_now, moved_on, worked, stepped, step_answer}
use Rattle.desk.specs.Perform.{After, answer, moved, lent_after}
use Rattle.desk.proofs.RefusedLaws.{in_store, perform_accepted}
use Rattle.desk_check.specs.Read.{standing_of}
use Rattle.desk_check.specs.Answer.{Does}
use Rattle.desk_check.specs.Held.{HeldDesk}
use Rattle.desk_moves.specs.declared.Stepped.{Stepped}
use Rattle.desk_moves.specs.Answer.{step_reply, Leaves}

-- row `row` of F of the table whole, in its place in other; and whether it differs from that of whole. For the codes w and the numbers l
-- of a lattice, and the model parts m1 and m2
abbrev pub row_out : List ℕ → Lattice → List ℕ → List ℕ → List ℕ → ℕ → List ℕ → List ℕ
row_out w l m1 m2 whole row other = row_written (model_of m1) (model_of m2) (F (ops_in w l) (model_of m1) (model_of m2)) (table_of whole (get_or m2 0 0)) row other

abbrev pub row_differs : List ℕ → Lattice → List ℕ → List ℕ → List ℕ → ℕ → Bool
row_differs w l m1 m2 whole row = row_changed (model_of m1) (model_of m2) (F (ops_in w l) (model_of m1) (model_of m2)) (table_of whole (get_or m2 0 0)) row

-- the same for the model parts of the case b
abbrev pub case_row : List ℕ → Lattice → List ℕ → List ℕ → ℕ → List ℕ → List ℕ
case_row w l b whole row other = row_out w l (part_at b 1) (part_at b 2) whole row other

abbrev pub case_row_differs : List ℕ → Lattice → List ℕ → List ℕ → ℕ → Bool
case_row_differs w l b whole row = row_differs w l (part_at b 1) (part_at b 2) whole row

-- what working a row asks of the codes w, of the case b, of the whole table and of the other
pub record Workable (w : List ℕ) (l : Lattice) (b whole other : List ℕ) (row : ℕ) : Type 0 where
  pub coded : Coded w l
  pub placed : Placed b
  pub parts : 3 ≤ part_count b
  pub shaped : Shaped (part_at b 1) (part_at b 2) whole
  pub room : get_or (part_at b 1) 0 0 * get_or (part_at b 2) 0 0 ≤ length other
  pub row_below : row < get_or (part_at b 1) 0 0

-- what comparing two tables of the standing's sizes asks
pub record Comparable (s : Standing) (whole other : List ℕ) : Type 0 where
  pub few : s.states1 * s.states2 ≤ 4096
  pub whole_room : s.states1 * s.states2 ≤ length whole
  pub other_room : s.states1 * s.states2 ≤ length other

-- what moving the standing on asks: the numbers fit that it counts up, and the tables can be compared
pub record Movable (s : Standing) (whole other : List ℕ) : Type 0 where
  pub row_below : s.row < s.states1
  pub round_below : s.round < 16777216
  pub lowerings-below : s.lowerings < 16777216
  pub comparable : Comparable s whole other

-- in how many entries the whole table and the other one differ
abbrev pub differing_for : Standing → List ℕ → List ℕ → ℕ
differing_for s whole other = bytes_differing whole other s.states1 s.states2

-- the standing after a row that differs from the whole table's, or does not, and stands in the other table
abbrev pub moved_by : Bool → List ℕ → List ℕ → Standing → Standing
moved_by differs whole other s = moved_on s.states1 (s.changed || differs) (differing_for s whole other) s

-- what a step gives, where the standing is known by an equation
pub leaves : {s t : Standing} {r : Stepped} → t ≡ s → Leaves t r → Leaves s r
leaves m a = record { standing = a.standing ∙ m; answer = a.answer ∙ ap step_answer m }

settled_answer : (s : Standing) → s.settled ≡ true → step_answer s ≡ Reply.Settled s.round s.lowerings
settled_answer s u = rw u

module _ {d : Desk} {z : Sizes} {w : List ℕ} (h : HeldDesk d z w) where
  abbrev bytes : List ℕ
  bytes = take 24576 d.store

  pub workable : (whole other : List ℕ) → 4096 ≤ length whole → 4096 ≤ length other → Workable w z.lattice bytes whole other d.standing.row
  workable whole other p q =
      let few = h.case.sound.entries_most in
      record {
        coded = h.case.coded;
        placed = h.case.placed;
        parts = h.case.parts.least;
        shaped =
            rw (h.case.parts.model1, h.case.parts.model2)
            (record { first = h.case.sound.shape1; second = h.case.sound.shape2; same_propositions = h.case.sound.same_propositions; held = omega (arith, few) });
        room = rw (h.case.parts.model1, h.case.parts.model2) (omega (arith, few));
        row_below = rw h.case.parts.model1 h.unspoiled.rules.row_below;
      }

  -- an unsettled desk's next round and its lowerings fit, and two tables of 4,096 bytes can be compared
  pub movable : (whole other : List ℕ) → d.standing.settled ≡ false → 4096 ≤ length whole → 4096 ≤ length other → Movable d.standing whole other
  movable whole other u p q =
      let rules = h.unspoiled.rules in
      let few : d.standing.states1 * d.standing.states2 ≤ 4096 = rw (rules.size1, rules.size2) h.case.sound.entries_most in
      let most = prod_le (table_size h.case.holds) (lattice_size h.case.holds - 1) 4096 64 h.case.sound.entries_most (omega (arith, h.case.sound.elements_most)) in
      record {
        row_below = rw rules.size1 rules.row_below;
        round_below = omega (arith, rules.unsettled_most u, most);
        lowerings-below = omega (arith, rules.lowerings_most, most);
        comparable = record { few = few; whole_room = omega arith; other_room = omega arith };
      }

  abbrev after_step : Desk → After
  after_step e = record { reply = step_answer e.standing; desk = e; lent = [] }

  abbrev unmoved : Reply → After
  unmoved x = record { reply = x; desk = d; lent = [] }

  held_step : (e : Desk) → stepped h.case.holds d ≡ e → Does Call.Step d (step_answer e.standing) e
  unfolding answer moved lent_after
  held_step e p = perform_accepted Call.Step d h.case.holds (in_store Call.Step d h.case.holds refl h.unspoiled) ∙ ap after_step p

  pub settled_step : d.standing.settled ≡ true → Does Call.Step d (Reply.Settled d.standing.round d.standing.lowerings) d
  unfolding stepped
  settled_step u = held_step d (ap (λ (b : Bool). cond b d (worked h.case.holds d)) u) ∙ ap unmoved (settled_answer d.standing u)

  pub settled_left : {r : Stepped} → d.standing.settled ≡ true → Leaves d.standing r → Does Call.Step d (step_reply r.answer) (record { standing = standing_of r.standing; store = d.store; first = d.first; second = d.second })
  settled_left u m = rw (m.standing, m.answer, settled_answer d.standing u) (settled_step u)

  -- the row, in the desk's terms
  out_is : (out whole other : List ℕ) → out ≡ case_row w z.lattice bytes whole d.standing.row other → out ≡ row_written (model1 h.case.holds) (model2 h.case.holds) (operator h.case.holds) (table_of whole (N2 h.case.holds)) d.standing.row other
  out_is out whole other e = rw (h.case.parts.model1, h.case.parts.model2, h.case.ops) at e

  differs_is : (differs : Bool) (whole : List ℕ) → differs ≡ case_row_differs w z.lattice bytes whole d.standing.row → differs ≡ row_changed (model1 h.case.holds) (model2 h.case.holds) (operator h.case.holds) (table_of whole (N2 h.case.holds)) d.standing.row
  differs_is differs whole e = rw (h.case.parts.model1, h.case.parts.model2, h.case.ops) at e

  -- the standing that a step leaves, from the row that was worked into the table that is not whole
  standing-moved : (differs : Bool) (whole out : List ℕ) → whole ≡ whole_table d → out ≡ row_worked h.case.holds d → differs ≡ row_changed (model1 h.case.holds) (model2 h.case.holds) (operator h.case.holds) (shown_table h.case.holds d) d.standing.row
      → moved_on (N1 h.case.holds) (changed_now h.case.holds d) (lowered_now h.case.holds d) d.standing ≡ moved_by differs whole out d.standing
  standing-moved differs whole out p o e = rw (p, o, e, h.unspoiled.rules.size1, h.unspoiled.rules.size2)

  -- a row was worked into `other`, which gives `out`, and the standing moved on: `differs`, `next` and x are what was said, left and answered
  module _ (out : List ℕ) (differs : Bool) (next : Standing) (x : Reply) (u : d.standing.settled ≡ false) where
    abbrev RowWorked : List ℕ → List ℕ → Type 0
    RowWorked whole other = (out ≡ case_row w z.lattice bytes whole d.standing.row other) × (differs ≡ case_row_differs w z.lattice bytes whole d.standing.row)

    abbrev MovedFrom : List ℕ → Type 0
    MovedFrom whole = (next ≡ moved_by differs whole out d.standing) × (x ≡ step_answer (moved_by differs whole out d.standing))

    -- the second table is whole, and the row is worked into the first
    pub into-first : d.standing.second_whole ≡ true → RowWorked d.second d.first → MovedFrom d.second → Does Call.Step d x (record { standing = next; store = d.store; first = out; second = d.second })
    unfolding stepped worked
    into-first v e m =
        let o = out_is out d.second d.first e.0 in
        let s = standing-moved differs d.second out (rw v) (rw v o) (rw v (differs_is differs d.second e.1)) in
        rw (m.0, m.1) (held_step (record { standing = moved_by differs d.second out d.standing; store = d.store; first = out; second = d.second }) (rw (u, s, o, v)))

    -- the first table is whole, and the row is worked into the second
    pub into-second : d.standing.second_whole ≡ false → RowWorked d.first d.second → MovedFrom d.first → Does Call.Step d x (record { standing = next; store = d.store; first = d.first; second = out })
    unfolding stepped worked
    into-second v e m =
        let o = out_is out d.first d.second e.0 in
        let s = standing-moved differs d.first out (rw v) (rw v o) (rw v (differs_is differs d.first e.1)) in
        rw (m.0, m.1) (held_step (record { standing = moved_by differs d.first out d.standing; store = d.store; first = d.first; second = out }) (rw (u, s, o, v)))
