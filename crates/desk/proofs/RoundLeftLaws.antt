-- What the steps that are left in a round do, and that demand 3 goes through them. Rests on RoundLeft, Stepping, Listed and rounds' Rest.
-- The definitions are in specs/RoundLeftLaws.
--   one_finished: where one step is left; rest-finished, settled_finished: where an accepted desk is unsettled, and where it is settled
--   step-obeys-rules: a row that is not the last leaves a desk to which neither 11 nor 12 applies
--   acts_run, acts_demand3: a list with the rest of a round in it is a list of calls
use Prim.Native.Nat.{ℕ, zero, suc, ◌+◌, ◌-◌, ◌≤◌, ◌<◌}
use Rattle.std.specs.Prelude.{◌≡◌, Bool, cond, ◌||◌, eqb, length, take, replicate}
use Rattle.std.proofs.Math.Path.{refl, ap, ap₂}
use Rattle.std.proofs.Common.{sym, ◌∙◌, eq-eqb, ne_eqb, lt-ltb, ltb-true}
use Rattle.std.proofs.Math.Bool.{true, false, or-false, or_assoc}
use mathlib.Core.List.{List, [], ◌∷◌}
use native.Mathlib.Omega.{arith}
use Rattle.std.proofs.Math.ListN.{get_or}
use Rattle.theory.proofs.Rounds.{F_element}
use Rattle.theory.specs.TestLaws.{false_true, cond_true, cond_false}
use Rattle.casefile.specs.Reading.{Content}
use Rattle.casefile.specs.Content.{ContentSound}
use Rattle.casefile.proofs.Content.{content_sound}
use Rattle.rounds.specs.Table.{row_changed}
use Rattle.rounds.specs.Round.{row_elements}
use Rattle.rounds.specs.Rest.{rows_from, rows_changed, row_length}
use Rattle.desk.specs.Desk.{Desk, Call, Reply, other_table}
use Rattle.desk.specs.Case.{ops, lattice_size, model1, model2, N1, table_size, operator, differing_in}
use Rattle.desk.specs.View.{given_table, shown_table}
use Rattle.desk.specs.Moved.{row_worked, changed_now, lowered_now, next_row, next_round, worked, stepped, step_answer}
use Rattle.desk.specs.Perform.{After, perform, answer, moved, lent_after}
use Rattle.desk.specs.Run.{run, replies, openings}
use Rattle.desk.specs.RefusedLaws.{Unspoiled}
use Rattle.desk.proofs.RefusedLaws.{in_store, perform_accepted}
use Rattle.desk.specs.RulesLaws.{Long}
use Rattle.desk.proofs.RulesLaws.{long-enough, long_not_short}
use Rattle.desk.proofs.Stepping.{keep_whole, keep_other}
use Rattle.desk.proofs.Listed.{run_append}
use Rattle.desk.specs.Demand3.{Demand3}
use Rattle.desk.proofs.Demand3Holds.{demand3}
use Rattle.desk.specs.RoundLeft.{steps_left, left_in, steps_done, finished, Finishes, Act, run_acts, calls_for}
use Rattle.desk.specs.RoundLeftLaws.{with_other, row_done, rows, differ, ended_from, ended_by, ended}

-- ---- where one step is left

pub one_finished : (d : Desk) (x : Reply) (e : Desk) → steps_left d ≡ 1 → perform Call.Step d ≡ record { reply = x; desk = e; lent = [] } → Finishes d x e
unfolding run replies
one_finished d x e n p = ap (λ (m : ℕ). steps_done m d) n ∙ ap (λ (a : After). record { reply = a.reply; desk = a.desk; lent = [] }) p

-- ---- the tables, where the one that is not whole is written

-- what holds of both holds of either
of_both : (P : List ℕ → Type 0) (w : Bool) (f g : List ℕ) → P f → P g → P (cond w f g)
of_both P true f g p q = p
of_both P false f g p q = q

-- written twice, it is as written last
twice_first : (w : Bool) (f o p : List ℕ) → cond w p (cond w o f) ≡ cond w p f
twice_first true f o p = refl
twice_first false f o p = refl

twice_second : (w : Bool) (g o p : List ℕ) → cond w (cond w g o) p ≡ cond w g p
twice_second true g o p = refl
twice_second false g o p = refl

-- ---- a row

module _ (c : Content) where
  abbrev after_step : Desk → After
  after_step e = record { reply = step_answer e.standing; desk = e; lent = [] }

  performs : (d e : Desk) → Unspoiled d c → d.standing.settled ≡ false → worked c d ≡ e → perform Call.Step d ≡ after_step e
  unfolding answer moved lent_after stepped
  performs d e u s p = perform_accepted Call.Step d c (in_store Call.Step d c refl u) ∙ ap after_step (cond_false d.standing.settled d (worked c d) s ∙ p)

  moves_to : (d : Desk) (t : Bool) → eqb (d.standing.row + 1) (N1 c) ≡ t → worked c d ≡ with_other d (cond t (next_round (changed_now c d) (d.standing.lowerings + lowered_now c d) d.standing) (next_row (changed_now c d) d.standing)) (row_worked c d)
  unfolding worked
  moves_to d t e = ap (λ (b : Bool). with_other d (cond b (next_round (changed_now c d) (d.standing.lowerings + lowered_now c d) d.standing) (next_row (changed_now c d) d.standing)) (row_worked c d)) e

  module _ (d : Desk) (u : Unspoiled d c) (s : d.standing.settled ≡ false) where
    sound : ContentSound c
    sound = content_sound (take 24576 d.store) c u.rules.reads

    lengths : Long d
    lengths = long-enough d u.long

    other_long : 4096 ≤ length (other_table d)
    other_long = of_both (λ t. 4096 ≤ length t) d.standing.second_whole d.first d.second lengths.first_long lengths.second_long

    other_room : table_size c ≤ length (other_table d)
    other_room = omega (arith, sound.entries_most, other_long)

    row-long : 4096 ≤ length (row_worked c d)
    row-long = rw (row_length (model1 c) (model2 c) (operator c) (shown_table c d) d.standing.row (other_table d) u.rules.row_below other_room) other_long

    abbrev Below : List ℕ → Type 0
    Below t = (i : ℕ) → i < table_size c → get_or t i 0 < lattice_size c

    other-below : Below (other_table d)
    other-below = of_both Below d.standing.second_whole d.first d.second u.rules.first_below_lem u.rules.second_below

    row_below : Below (row_worked c d)
    row_below i k =
        let elements = F_element sound.laws (model1 c) (model2 c) in
        ltb-true _ _ (row_elements (ops c) (model1 c) (model2 c) (operator c) elements (shown_table c d) d.standing.row (other_table d) u.rules.row_below other_room (λ j l. lt-ltb _ _ (other-below j l)) i k)

    -- a row that is not the last: the rules of 11 and 12 hold again
    pub step-obeys-rules : d.standing.row + 1 < N1 c → Unspoiled (row_done c d) c
    step-obeys-rules l =
        let w = d.standing.second_whole in
        record {
          long = long_not_short (row_done c d) (record {
            store_long = lengths.store_long;
            first_long = of_both (λ t. 4096 ≤ length t) w (row_worked c d) d.first row-long lengths.first_long;
            second_long = of_both (λ t. 4096 ≤ length t) w d.second (row_worked c d) lengths.second_long row-long;
          });
          rules = record {
            reads = u.rules.reads;
            size1 = u.rules.size1;
            size2 = u.rules.size2;
            row_below = l;
            nothing_yet = λ z. absurd (omega (arith, z));
            unsettled_most = λ z. u.rules.unsettled_most s;
            settled_least = λ z. absurd (false_true refl z);
            settled_most = λ z. absurd (false_true refl z);
            settled_row = λ z. absurd (false_true refl z);
            lowerings_most = u.rules.lowerings_most;
            first_below_lem = of_both Below w (row_worked c d) d.first row_below u.rules.first_below_lem;
            second_below = of_both Below w d.second (row_worked c d) u.rules.second_below row_below;
          };
        }

  -- ---- the rows that are left

  -- one row, then m rows: m + 1 rows
  ended_next : (m : ℕ) (d : Desk) → ended_by c m (row_done c d) ≡ ended_by c (suc m) d
  unfolding ended_from rows_from rows_changed
  ended_next m d =
      let w = d.standing.second_whole in
      let q = d.standing.row + 1 in
      let e = row_done c d in
      let now = changed_now c d in
      let out = rows c m (shown_table c e) q (other_table e) in
      ap₂ (λ (f g : List ℕ). record { standing = (ended_by c m e).standing; store = d.store; first = f; second = g })
      (twice_first w d.first (row_worked c d) out)
      (twice_second w d.second (row_worked c d) out)
      ∙ ap₂ (ended_from c m d now q)
      (keep_whole w d.first d.second (row_worked c d))
      (keep_other w d.first d.second (row_worked c d))
      ∙ ap (λ (b : Bool). with_other d (next_round b (d.standing.lowerings + differing_in c (shown_table c d) (given_table c (rows c m (shown_table c d) q (row_worked c d)))) d.standing) (rows c m (shown_table c d) q (row_worked c d)))
      (or_assoc d.standing.changed (row_changed (model1 c) (model2 c) (operator c) (shown_table c d) d.standing.row) (differ c m (shown_table c d) q))

  -- the last row
  ended_last : (d : Desk) → with_other d (next_round (changed_now c d) (d.standing.lowerings + lowered_now c d) d.standing) (row_worked c d) ≡ ended_by c 1 d
  unfolding ended_from rows_from rows_changed
  ended_last d = ap (λ (b : Bool). with_other d (next_round (d.standing.changed || b) (d.standing.lowerings + lowered_now c d) d.standing) (row_worked c d)) (sym (or-false (row_changed (model1 c) (model2 c) (operator c) (shown_table c d) d.standing.row)))

  steps_end : (m : ℕ) (d : Desk) → Unspoiled d c → d.standing.settled ≡ false → d.standing.row + suc m ≡ N1 c
      → (run (replicate (suc m) Call.Step) d ≡ ended_by c (suc m) d)
      × (get_or (replies (replicate (suc m) Call.Step) d) m Reply.Opened ≡ step_answer (ended_by c (suc m) d).standing)
  unfolding run replies
  steps_end zero d u s n =
      let p = performs d (ended_by c 1 d) u s (moves_to d true (eq-eqb (d.standing.row + 1) (N1 c) (omega arith)) ∙ ended_last d) in
      (ap (λ (a : After). a.desk) p, ap (λ (a : After). a.reply) p)
  steps_end (suc m) d u s n =
      let no : ¬ (d.standing.row + 1 ≡ N1 c) = λ z. omega arith in
      let p = performs d (row_done c d) u s (moves_to d false (ne_eqb _ _ no)) in
      let i = steps_end m (row_done c d) (step-obeys-rules d u s (omega arith)) refl (omega arith) in (
        ap (λ (a : After). run (replicate (suc m) Call.Step) a.desk) p ∙ i.0 ∙ ended_next (suc m) d,
        ap (λ (a : After). get_or (replies (replicate (suc m) Call.Step) a.desk) m Reply.Opened) p ∙ i.1 ∙ ap (λ (e : Desk). step_answer e.standing) (ended_next (suc m) d),
      )

  pub rest-finished : (d : Desk) → Unspoiled d c → d.standing.settled ≡ false → Finishes d (step_answer (ended c d).standing) (ended c d)
  unfolding steps_left
  rest-finished d u s =
      let l = u.rules.row_below in
      let m = N1 c - d.standing.row - 1 in
      let k : N1 c - d.standing.row ≡ suc m = omega arith in
      let z : suc m - 1 ≡ m = omega arith in
      let i = steps_end m d u s (omega arith) in
      let n : steps_left d ≡ suc m = ap (left_in d) (in_store Call.Step d c refl u) ∙ cond_false d.standing.settled 1 (N1 c - d.standing.row) s ∙ k in
      ap (λ (j : ℕ). steps_done j d) n
      ∙ ap (λ (j : ℕ). record { reply = get_or (replies (replicate (suc m) Call.Step) d) j Reply.Opened; desk = run (replicate (suc m) Call.Step) d; lent = [] }) z
      ∙ ap₂ (λ (x : Reply) (e : Desk). record { reply = x; desk = e; lent = [] }) i.1 i.0
      ∙ ap (λ (j : ℕ). after_step (ended_by c j d)) (sym k)

  -- a settled desk has one step, which leaves it as it was
  pub settled_finished : (d : Desk) → Unspoiled d c → d.standing.settled ≡ true → Finishes d (Reply.Settled d.standing.round d.standing.lowerings) d
  unfolding steps_left answer moved lent_after stepped
  settled_finished d u s =
      let e = in_store Call.Step d c refl u in
      let z : step_answer d.standing ≡ Reply.Settled d.standing.round d.standing.lowerings = rw s in
      one_finished d (Reply.Settled d.standing.round d.standing.lowerings) d
      (ap (left_in d) e ∙ cond_true d.standing.settled 1 (N1 c - d.standing.row) s)
      (perform_accepted Call.Step d c e ∙ ap after_step (cond_true d.standing.settled d (worked c d) s) ∙ ap (λ (x : Reply). record { reply = x; desk = d; lent = [] }) z)

-- ---- a list with the rest of a round in it is a list of calls

pub acts_run : (xs : List Act) (d : Desk) → run_acts xs d ≡ run (calls_for xs d) d
unfolding run_acts calls_for run
acts_run [] d = refl
acts_run (Act.One k ∷ xs) d = acts_run xs (perform k d).desk
acts_run (Act.Rest ∷ xs) d = acts_run xs (finished d).desk ∙ sym (run_append (replicate (steps_left d) Call.Step) (calls_for xs (finished d).desk) d)

-- so demand 3 holds of it, with the steps counted one by one
pub acts_demand3 : (xs : List Act) (d : Desk) → 0 < openings (calls_for xs d) d → Demand3 (calls_for xs d) d × (run_acts xs d ≡ run (calls_for xs d) d)
acts_demand3 xs d h = (demand3 (calls_for xs d) d h, acts_run xs d)
