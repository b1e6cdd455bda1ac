-- An accepted step moves the invariant of demand 3 on by one step. Rests on Stands, Moved, rounds' Round, theory's Rounds and Lowerings.
use Rattle.std.specs.Prelude.{ℕ, suc, ◌+◌, ◌-◌, ◌≤◌, ◌<◌, ◌≡◌, Bool, cond, not, ◌||◌, ◌⊎◌, List, length, get_or}
use Rattle.std.proofs.Math.Path.{refl}
use Rattle.std.proofs.Common.{sym, ap₂, ◌∙◌, subst, inl, inr, ⊎_elim, eq-or-lt_of_le, add-one, arith}
use Rattle.std.proofs.Math.Bool.{true, false}
use borrow.Author.Tests.{eqb-true, eqb-false}
use Rattle.std.proofs.Math.Dec.{eqb}
use Rattle.theory.specs.Lattice.{Element}
use Rattle.theory.specs.Simulation.{SameTable}
use Rattle.theory.proofs.Rounds.{F_element}
use Rattle.theory.specs.Lowerings.{differing_cong, lowerings-more}
use Rattle.theory.specs.TestLaws.{false_true, cond_true, cond_false}
use Rattle.casefile.specs.Reading.{Content}
use Rattle.entries.specs.Table.{table_of}
use Rattle.rounds.specs.Table.{row_written, row_changed}
use Rattle.rounds.specs.Round.{RoundSoFar, RoundDone, round_none, round_more, round_reached, round_done, F_reads, row_elements}
use Rattle.desk.specs.Desk.{Standing, Desk, whole_table, other_table}
use Rattle.desk.specs.Case.{ops, model1, model2, N1, N2, table_size, operator, round_in, differing_in, lowerings_in}
use Rattle.desk.specs.Moved.{row_worked, changed_now, lowered_now, next_row, next_round, worked, stepped}
use Rattle.desk.specs.Stands.{Known, SizesAre, BeforeT, AtT, Progress, DeskBeforeT, DeskAtT, ProgressAt, Stands}
use Rattle.desk.proofs.Stands.{known-sound, sizes_most, some_states}

-- the same of equal tables
progress_with : {c : Content} {T s : ℕ} {x : Standing} {whole other whole' other' : List ℕ} → whole' ≡ whole → other' ≡ other → Progress c T s x whole other → Progress c T s x whole' other'
progress_with p q h = rw (p, q) h

-- the same store, its sizes, and what is progress now
stands_with : {c : Content} {T s n : ℕ} {d : Desk} → Stands c T s d → (e : Desk) → e.store ≡ d.store → SizesAre c e.standing → ProgressAt c T n e → Stands c T n e
stands_with w e p z h =
    record {
      known = w.known;
      rest = w.rest;
      store_is = p ∙ w.store_is;
      store_long = rw p w.store_long;
      sizes = z;
      progress = h;
    }

-- where the tables stand when the other one is written, and when they are exchanged after that
pub keep_whole : (w : Bool) (f g o : List ℕ) → cond w (cond w g o) (cond w o f) ≡ cond w g f
keep_whole true f g o = refl
keep_whole false f g o = refl

pub keep_other : (w : Bool) (f g o : List ℕ) → cond w (cond w o f) (cond w g o) ≡ o
keep_other true f g o = refl
keep_other false f g o = refl

turn_whole : (w : Bool) (f g o : List ℕ) → cond (not w) (cond w g o) (cond w o f) ≡ o
turn_whole true f g o = refl
turn_whole false f g o = refl

turn_other : (w : Bool) (f g o : List ℕ) → cond (not w) (cond w o f) (cond w g o) ≡ cond w g f
turn_other true f g o = refl
turn_other false f g o = refl

module _ {c : Content} {T : ℕ} (known : Known c T) where
  -- ---- one row more
  module _ {s : ℕ} {x : Standing} {whole other : List ℕ} (h : Progress c T s x whole other) (g : BeforeT c T s x whole other) where
    abbrev round : ℕ
    round = x.round

    abbrev row : ℕ
    row = x.row

    abbrev S : ℕ → ℕ → ℕ
    S = table_of whole (N2 c)

    abbrev out : List ℕ
    out = row_written (model1 c) (model2 c) (operator c) S row other

    abbrev now : Bool
    now = x.changed || row_changed (model1 c) (model2 c) (operator c) S row

    more : RoundSoFar (model1 c) (model2 c) (operator c) S g.before (row + 1) out now
    more = round_more g.so_far g.row_below (omega (arith, sizes_most known, h.other_long, g.so_far.worked.same_length)) refl refl refl

    out-long : 4096 ≤ length out
    out-long = rw (more.worked.same_length ∙ sym g.so_far.worked.same_length) h.other_long

    out-elements : (i : ℕ) → i < table_size c → Element (ops c) (get_or out i 0)
    out-elements = row_elements (ops c) (model1 c) (model2 c) (operator c) (F_element (known-sound known).laws (model1 c) (model2 c)) S row other g.row_below (omega (arith, sizes_most known, h.other_long)) h.other_elements

    -- a row that is not the last
    pub row_more : row + 1 < N1 c → Progress c T (s + 1) (next_row now x) whole out
    row_more l =
        record {
          whole_long = h.whole_long;
          other_long = out-long;
          whole_elements = h.whole_elements;
          other_elements = out-elements;
          shown = h.shown;
          lowerings_are = h.lowerings_are;
          place = inl (record { unsettled = refl; below = g.below; row_below = l; count = omega (arith, g.count); before = g.before; so_far = more });
        }

    -- the last row
    module _ (l : row + 1 ≡ N1 c) where
      done : RoundDone (ops c) (model1 c) (model2 c) (operator c) round out now
      done = round_done (ops c) (F_reads (ops c) (model1 c) (model2 c)) round h.shown (round_reached more (omega arith) (omega arith))

      -- round + 1 equals round exactly when it is T
      same-at-T : suc round ≡ T → now ≡ false
      same-at-T q =
          let p : T - 1 ≡ round = omega arith in
          done.unchanged.1
          (subst (λ (x : ℕ). SameTable (ops c) (model1 c) (model2 c) (round_in c x) (round_in c round)) (sym q)
          (subst (λ (x : ℕ). SameTable (ops c) (model1 c) (model2 c) (round_in c T) (round_in c x)) p known.is_T.unchanged))

      T-at-same : now ≡ false → suc round ≡ T
      T-at-same n =
          ⊎_elim
          (λ (q : suc round ≡ T). q)
          (λ (q : suc round < T).
          let p : round ≡ suc round - 1 = omega arith in
          absurd (known.is_T.least (suc round) (omega arith) q (subst (λ (x : ℕ). SameTable (ops c) (model1 c) (model2 c) (round_in c (suc round)) (round_in c x)) p (done.unchanged.0 n))))
          (eq-or-lt_of_le g.below)

      -- the entries in which the two tables differ are those in which the two rounds do
      abbrev compared : ℕ
      compared = differing_in c S (table_of out (N2 c))

      lowerings-are-more : x.lowerings + compared ≡ lowerings_in c (suc round)
      lowerings-are-more =
          ap₂ ◌+◌ h.lowerings_are (differing_cong eqb (N1 c) (N2 c) S (round_in c round) (table_of out (N2 c)) (round_in c (suc round)) h.shown done.holds)
          ∙ sym (lowerings-more eqb (N1 c) (N2 c) (round_in c) round)

      place_after : (n : Bool) → now ≡ n → BeforeT c T (s + 1) (next_round n (x.lowerings + compared) x) out whole ⊎ AtT c T (s + 1) (next_round n (x.lowerings + compared) x)
      place_after true n =
          inl
          (record {
            unsettled = refl;
            below = ⊎_elim (λ (q : suc round ≡ T). absurd (false_true (same-at-T q) n)) (λ (q : suc round < T). omega arith) (eq-or-lt_of_le g.below);
            row_below = some_states known;
            count = omega (arith, g.count);
            before = whole;
            so_far = round_none;
          })
      place_after false n =
          let q : suc round ≡ T = T-at-same n in
          inr (record { is_settled = refl; at_T = omega arith; row_0 = refl; unchanged = refl; enough = rw (← q) (omega (arith, g.count)) })

      pub round-more-done : Progress c T (s + 1) (next_round now (x.lowerings + compared) x) out whole
      round-more-done =
          record {
            whole_long = out-long;
            other_long = h.whole_long;
            whole_elements = out-elements;
            other_elements = h.whole_elements;
            shown = rw add-one done.holds;
            lowerings_are = rw add-one lowerings-are-more;
            place = place_after now refl;
          }

  -- what a step does, part by part
  module _ (d : Desk) where
    -- the row of F of the shown table, in its place in the other one
    row_is : row_worked c d ≡ row_written (model1 c) (model2 c) (operator c) (table_of (whole_table d) (N2 c)) d.standing.row (other_table d)
    row_is = refl

    first_is : (worked c d).first ≡ cond d.standing.second_whole (row_worked c d) d.first
    unfolding worked
    first_is = refl

    second_is : (worked c d).second ≡ cond d.standing.second_whole d.second (row_worked c d)
    unfolding worked
    second_is = refl

    unsettled-works : d.standing.settled ≡ false → stepped c d ≡ worked c d
    unfolding stepped
    unsettled-works e = cond_false d.standing.settled _ (worked c d) e

    settled-stays : d.standing.settled ≡ true → stepped c d ≡ d
    unfolding stepped
    settled-stays e = cond_true d.standing.settled d _ e

    -- the desk with the standing x and the tables after a row
    abbrev row_done : Standing → Desk
    row_done x = record { standing = x; store = d.store; first = (worked c d).first; second = (worked c d).second }

    -- its whole table and its other one, where w says which is whole
    tables-are : (w : Bool) → (cond w (worked c d).second (worked c d).first ≡ cond w (cond d.standing.second_whole d.second (row_worked c d)) (cond d.standing.second_whole (row_worked c d) d.first))
        × (cond w (worked c d).first (worked c d).second ≡ cond w (cond d.standing.second_whole (row_worked c d) d.first) (cond d.standing.second_whole d.second (row_worked c d)))
    tables-are w = (ap₂ (cond w) second_is first_is, ap₂ (cond w) first_is second_is)

  worked-stands : {s : ℕ} {d : Desk} → Stands c T s d → DeskBeforeT c T s d → Stands c T (s + 1) (worked c d)
  unfolding worked
  worked-stands {s} {d} w g = go (eqb (d.standing.row + 1) (N1 c)) refl
    where
      go : (t : Bool) → eqb (d.standing.row + 1) (N1 c) ≡ t → Stands c T (s + 1) (row_done d (cond t (next_round (changed_now c d) (d.standing.lowerings + lowered_now c d) d.standing) (next_row (changed_now c d) d.standing)))
      go true q =
          let e = row_done d (next_round (changed_now c d) (d.standing.lowerings + lowered_now c d) d.standing) in
          let x = d.standing.second_whole in
          let whole : whole_table e ≡ row_worked c d = (tables-are d (not x)).0 ∙ turn_whole x d.first d.second (row_worked c d) in
          let other : other_table e ≡ whole_table d = (tables-are d (not x)).1 ∙ turn_other x d.first d.second (row_worked c d) in
          stands_with w e refl w.sizes
          (progress_with (whole ∙ row_is d) other
          (round-more-done w.progress g (eqb-true _ _ q)))
      go false q =
          let e = row_done d (next_row (changed_now c d) d.standing) in
          let x = d.standing.second_whole in
          let whole : whole_table e ≡ whole_table d = (tables-are d x).0 ∙ keep_whole x d.first d.second (row_worked c d) in
          let other : other_table e ≡ row_worked c d = (tables-are d x).1 ∙ keep_other x d.first d.second (row_worked c d) in
          let n : ¬ (d.standing.row + 1 ≡ N1 c) = eqb-false _ _ q in
          stands_with w e refl w.sizes
          (progress_with whole (other ∙ row_is d)
          (row_more w.progress g (omega (arith, g.row_below))))

  pub step_moves : {s : ℕ} {d : Desk} → Stands c T s d → Stands c T (s + 1) (stepped c d)
  step_moves {s} {d} w =
      ⊎_elim
      (λ (g : DeskBeforeT c T s d).
      subst (Stands c T (s + 1)) (sym (unsettled-works d g.unsettled)) (worked-stands w g))
      (λ (x : DeskAtT c T s d).
      subst (Stands c T (s + 1)) (sym (settled-stays d x.is_settled))
      (stands_with w d refl w.sizes
      (record {
        whole_long = w.progress.whole_long;
        other_long = w.progress.other_long;
        whole_elements = w.progress.whole_elements;
        other_elements = w.progress.other_elements;
        shown = w.progress.shown;
        lowerings_are = w.progress.lowerings_are;
        place = inr (record { is_settled = x.is_settled; at_T = x.at_T; row_0 = x.row_0; unchanged = x.unchanged; enough = omega (arith, x.enough) });
      })))
      w.progress.place
