-- What the rest of a round does, from the rows that were worked. Rests on Stepped, desk_check's Held, desk's RoundLeftLaws and rounds' Rest.
--   round_by, RestWorked: the standing after the last row, and that the rows which are left are worked: terms of the code's contracts
--   refused_rest, settled_rest: on a desk that is refused, and on one that is settled
--   rest-into-first, rest-into-second: the rows that are left are worked into the first table, or into the second
use Rattle.std.specs.Prelude.{ℕ, ◌+◌, ◌-◌, ◌≡◌, refl, Bool, true, false, ◌||◌, List, [], take, Result, Err}
use Rattle.std.proofs.Common.{sym, ap, ◌∙◌, arith}
use Rattle.refusal.specs.declared.Refusal.{Refusal}
use Rattle.casefile.specs.declared.Sizes.{Sizes}
use Rattle.casefile.specs.Directory.{part_at}
use Rattle.casefile.specs.Reading.{CaseReading, refused, content}
use Rattle.entries.specs.Table.{table_of}
use Rattle.rounds.specs.Rest.{rows_from, rows_changed, RestIn}
use Rattle.desk.specs.Desk.{Desk, Standing, Call, Reply}
use Rattle.desk.specs.Case.{model1, model2, N1, N2, operator}
use Rattle.desk.specs.Refused.{examined, number_reply}
use Rattle.desk.specs.Moved.{next_round, step_answer}
use Rattle.desk.specs.Perform.{After}
use Rattle.desk.specs.RoundLeft.{left_in, steps_left, Finishes}
use Rattle.desk.specs.RoundLeftLaws.{ended_from, ended}
use Rattle.desk.proofs.RoundLeftLaws.{one_finished, settled_finished, rest-finished}
use Rattle.desk_check.specs.Read.{standing_of}
use Rattle.desk_check.specs.Answer.{examined_answer, DeskExamined}
use Rattle.desk_check.specs.Held.{HeldDesk, refused_call}
use Rattle.desk_moves.specs.declared.Stepped.{Stepped}
use Rattle.desk_moves.specs.Answer.{step_reply, Leaves}
use Rattle.desk_moves.specs.Stepped.{differing_for}

pub refused_rest : (d : Desk) (r : Result Sizes Refusal) (f : Refusal) (w : List ℕ) → DeskExamined d r w → r ≡ Err f → Finishes d (number_reply f) d
unfolding steps_left
refused_rest d r f w a q = one_finished d (number_reply f) d (go (examined Call.Step d) (sym a.answer ∙ q)) (refused_call Call.Step d r f w refl a q)
  where
    go : (x : CaseReading) → examined_answer x ≡ Err f → left_in d x ≡ 1
    go (refused g) e = refl
    go (content c) e = absurd (let z : ◌≡◌ {A = ℕ} 0 1 = cc in omega arith)

-- the standing after the last row, where one of the rows that were left differs, or none, and they stand in the other table
abbrev pub round_by : Bool → List ℕ → List ℕ → Standing → Standing
round_by differs whole other s = next_round (s.changed || differs) (s.lowerings + differing_for s whole other) s

module _ {d : Desk} {z : Sizes} {w : List ℕ} (h : HeldDesk d z w) where
  -- the rows from the next one on are worked into `other`, which gives `out`; differs says whether one of them differs
  abbrev pub RestWorked : List ℕ → List ℕ → List ℕ → Bool → Type 0
  RestWorked whole other out differs = RestIn w z.lattice (part_at (take 24576 d.store) 1) (part_at (take 24576 d.store) 2) whole d.standing.row other out differs

  -- a settled desk has no rows left
  pub settled_rest : {r : Stepped} → d.standing.settled ≡ true → Leaves d.standing r → Finishes d (step_reply r.answer) (record { standing = standing_of r.standing; store = d.store; first = d.first; second = d.second })
  settled_rest u m =
      let e : step_answer d.standing ≡ Reply.Settled d.standing.round d.standing.lowerings = rw u in
      rw (m.standing, m.answer, e) (settled_finished h.case.holds d h.unspoiled u)

  -- the same in the desk's terms
  rows_are : (whole other out : List ℕ) (differs : Bool) → RestWorked whole other out differs
      → (out ≡ rows_from (model1 h.case.holds) (model2 h.case.holds) (operator h.case.holds) (table_of whole (N2 h.case.holds)) (N1 h.case.holds - d.standing.row) d.standing.row other)
      × (differs ≡ rows_changed (model1 h.case.holds) (model2 h.case.holds) (operator h.case.holds) (table_of whole (N2 h.case.holds)) (N1 h.case.holds - d.standing.row) d.standing.row)
  rows_are whole other out differs e = rw (h.case.parts.model1, h.case.parts.model2, h.case.ops) at e

  abbrev after_rest : Desk → After
  after_rest e = record { reply = step_answer e.standing; desk = e; lent = [] }

  held-rest : (e : Desk) → d.standing.settled ≡ false → ended h.case.holds d ≡ e → Finishes d (step_answer e.standing) e
  held-rest e u p = rest-finished h.case.holds d h.unspoiled u ∙ ap after_rest p

  -- the rows are worked and the standing is moved on
  module _ (out : List ℕ) (differs : Bool) (next : Standing) (x : Reply) (u : d.standing.settled ≡ false) where
    abbrev RoundFrom : List ℕ → Type 0
    RoundFrom whole = (next ≡ round_by differs whole out d.standing) × (x ≡ step_answer (round_by differs whole out d.standing))

    -- the second table is whole, and the rows are worked into the first
    pub rest-into-first : d.standing.second_whole ≡ true → RestWorked d.second d.first out differs → RoundFrom d.second → Finishes d x (record { standing = next; store = d.store; first = out; second = d.second })
    unfolding ended_from
    rest-into-first v e m =
        let o = rows_are d.second d.first out differs e in
        rw (m.0, m.1) (held-rest (record { standing = round_by differs d.second out d.standing; store = d.store; first = out; second = d.second }) u (rw (h.unspoiled.rules.size1, h.unspoiled.rules.size2, o.0, o.1, v)))

    -- the first table is whole, and the rows are worked into the second
    pub rest-into-second : d.standing.second_whole ≡ false → RestWorked d.first d.second out differs → RoundFrom d.first → Finishes d x (record { standing = next; store = d.store; first = d.first; second = out })
    unfolding ended_from
    rest-into-second v e m =
        let o = rows_are d.first d.second out differs e in
        rw (m.0, m.1) (held-rest (record { standing = round_by differs d.first out d.standing; store = d.store; first = d.first; second = out }) u (rw (h.unspoiled.rules.size1, h.unspoiled.rules.size2, o.0, o.1, v)))
