-- A whole round by its rows is F; no row changed exactly when the round equals the one before; the test for a simulation, and that for a table at or
-- below F of it.
-- Rests on Table, entries' Table, and theory's Simulation, Rounds, Loop, Test.
--   RoundSoFar, RoundIn: the rows below q are worked, with what they changed; a whole round on bytes
--   round_none, round_more, round_reached: no row, one row more, all rows
--   round_done, RoundDone: after all rows of round r the table is round r + 1, unchanged exactly when the two are equal
--   round_test, simulation_test_lem: a round that changes nothing is the test for a simulation, which exactly the simulations pass
--   post_fixed_test_lem: the test whether S is at or below G(S) says so
--   top_round, byte_at, shown_bytes, cell_lt: round 0; the entries as bytes
--   Worked, worked_none, worked_more, worked_round, row_elements: the rows alone
--   changed_none, changed_more, unchanged_simulation, unchanged_round: what changed alone
--   ReadsPairs, F_reads: F reads no more than the pairs of states
use Rattle.std.specs.Prelude.{ℕ, suc, ◌+◌, ◌*◌, ◌/◌, ◌%◌, ◌≤◌, ◌<◌, ◌≡◌, Bool, true, false, ◌||◌, ◌↔◌, List, length, get_or, take}
use Rattle.std.proofs.Math.Path.{refl, sym, ap}
use Rattle.std.proofs.Common.{ap₂, ◌∙◌, ⊎_elim, suc-mul, eq-or-lt_of_le, not-suc-le-zero, div-add-mod', div-lt_iff_lt-mul, mod-lt, add-one, arith, ext_get_or, get_or-take, length-take-le}
use Rattle.std.proofs.Math.Bool.{not}
use borrow.Author.Tests.{eq-eqb, eqb-true}
use Rattle.theory.specs.Lattice.{Ops, Element}
use Rattle.theory.specs.Model.{Model}
use Rattle.theory.specs.Part.{model_of}
use Rattle.theory.specs.Simulation.{F, round_of, SameTable, FixedBy, PostFixedBy}
use Rattle.theory.proofs.Rounds.{F_cong}
use Rattle.theory.specs.Loop.{tab_at, tab-length}
use Rattle.theory.specs.Lists.{tab}
use Rattle.theory.specs.Written.{written-length, written_at, written-before, written_after, written_all}
use Rattle.theory.specs.Test.{all_below}
use Rattle.theory.specs.TestLaws.{not_and, all_at, all_in}
use Rattle.elements.specs.declared.Lattice.{Lattice}
use Rattle.model.specs.Places.{row_le}
use Rattle.entries.specs.Table.{table_of, FIn}
use Rattle.rounds.specs.Table.{row_written, entry_same, row_same, row_changed, changed_below, simulation_test, entry_at_most, row_at_most, post_fixed_test}

-- in `out` the rows below q are those of F S, and every byte past them is that of `before`
pub record Worked (M₁ M₂ : Model ℕ) (G : (ℕ → ℕ → ℕ) → ℕ → ℕ → ℕ) (S : ℕ → ℕ → ℕ) (before : List ℕ) (q : ℕ) (out : List ℕ) : Type 0 where
  pub rows : (q₁ : ℕ) → q₁ < q → (q₂ : ℕ) → q₂ < M₂.states → table_of out M₂.states q₁ q₂ ≡ G S q₁ q₂
  pub others_unchanged : (i : ℕ) → q * M₂.states ≤ i → get_or out i 0 ≡ get_or before i 0
  pub same_length : length out ≡ length before

not-false : (a : Bool) → not a ≡ false → a ≡ true
not-false true e = refl
not-false false e = sym e

-- entry (q₁, q₂) is among the first n₁ · n₂ bytes
pub cell_lt : (n₁ n₂ q₁ q₂ : ℕ) → q₁ < n₁ → q₂ < n₂ → q₁ * n₂ + q₂ < n₁ * n₂
cell_lt n₁ n₂ q₁ q₂ k l = omega (arith, row_le q₁ n₁ n₂ k)

-- ---- one row more

module _ (M₁ M₂ : Model ℕ) (G : (ℕ → ℕ → ℕ) → ℕ → ℕ → ℕ) where
  pub worked_none : (S : ℕ → ℕ → ℕ) (out : List ℕ) → Worked M₁ M₂ G S out 0 out
  worked_none S out = record { rows = λ q₁ l. absurd (not-suc-le-zero l); others_unchanged = λ i l. refl; same_length = refl }

  pub worked_more : (S : ℕ → ℕ → ℕ) (before : List ℕ) (q : ℕ) (out : List ℕ) → q < M₁.states → M₁.states * M₂.states ≤ length before → Worked M₁ M₂ G S before q out → Worked M₁ M₂ G S before (q + 1) (row_written M₁ M₂ G S q out)
  worked_more S before q out l h w =
      let row : List ℕ = tab (G S q) M₂.states 0 in
      let n : length row ≡ M₂.states = tab-length (G S q) M₂.states 0 in
      let fits : q * M₂.states + length row ≤ length out = omega (arith, n, row_le q M₁.states M₂.states l, w.same_length) in
      record {
        rows = λ q₁ k q₂ m.
            ⊎_elim
            (λ (p : q₁ ≡ q). rw p (written_at (q * M₂.states) row out fits q₂ (omega (arith, n)) ∙ tab_at (G S q) M₂.states q₂ m))
            (λ (p : q₁ < q). written-before (q * M₂.states) row out fits (q₁ * M₂.states + q₂) (omega (arith, row_le q₁ q M₂.states p)) ∙ w.rows q₁ p q₂ m)
            (eq-or-lt_of_le (omega arith));
        others_unchanged = λ i k.
            let e : q * M₂.states + M₂.states ≤ i = rw (add-one, suc-mul) at k in
            written_after (q * M₂.states) row out fits i (omega (arith, n)) ∙ w.others_unchanged i (omega arith);
        same_length = written-length (q * M₂.states) row out fits ∙ w.same_length;
      }

  pub changed_none : (S : ℕ → ℕ → ℕ) → changed_below M₁ M₂ G S 0 ≡ false
  unfolding changed_below all_below
  changed_none S = refl

  pub changed_more : (S : ℕ → ℕ → ℕ) (q : ℕ) → changed_below M₁ M₂ G S (q + 1) ≡ (changed_below M₁ M₂ G S q || row_changed M₁ M₂ G S q)
  unfolding changed_below all_below
  changed_more S q = rw (add-one, not_and)

-- G reads a table only at the pairs of states
abbrev pub ReadsPairs : Ops ℕ → (M₁ M₂ : Model ℕ) → ((ℕ → ℕ → ℕ) → ℕ → ℕ → ℕ) → Type 0
ReadsPairs O M₁ M₂ G = (S U : ℕ → ℕ → ℕ) → SameTable O M₁ M₂ S U → (q₁ q₂ : ℕ) → G S q₁ q₂ ≡ G U q₁ q₂

pub F_reads : (O : Ops ℕ) (M₁ M₂ : Model ℕ) → ReadsPairs O M₁ M₂ (F O M₁ M₂)
F_reads O M₁ M₂ S U = F_cong O M₁ M₂

module _ (O : Ops ℕ) (M₁ M₂ : Model ℕ) (G : (ℕ → ℕ → ℕ) → ℕ → ℕ → ℕ) where
  -- ---- a table by its bytes

  -- round 0, from bytes that are all top
  pub top_round : (s : List ℕ) → ((i : ℕ) → i < M₁.states * M₂.states → get_or s i 0 ≡ O.top) → SameTable O M₁ M₂ (table_of s M₂.states) (round_of O M₁ M₂ G 0)
  unfolding round_of
  top_round s h q₁ l q₂ m = h _ (cell_lt M₁.states M₂.states q₁ q₂ l m)

  -- byte i is the entry whose row and column are i divided by N2 and what remains
  pub byte_at : (s : List ℕ) (S : ℕ → ℕ → ℕ) → SameTable O M₁ M₂ (table_of s M₂.states) S → 0 < M₂.states → (i : ℕ) → i < M₁.states * M₂.states → get_or s i 0 ≡ S (i / M₂.states) (i % M₂.states)
  byte_at s S h p i l = ap (λ (j : ℕ). get_or s j 0) (sym (div-add-mod' i M₂.states)) ∙ h _ ((div-lt_iff_lt-mul p).1 l) _ (mod-lt i p)

  -- the first N1·N2 bytes, as a list
  pub shown_bytes : (s : List ℕ) (S : ℕ → ℕ → ℕ) → SameTable O M₁ M₂ (table_of s M₂.states) S → 0 < M₂.states → M₁.states * M₂.states ≤ length s → take (M₁.states * M₂.states) s ≡ tab (λ i. S (i / M₂.states) (i % M₂.states)) (M₁.states * M₂.states) 0
  shown_bytes s S h p l =
      let e : length (take (M₁.states * M₂.states) s) ≡ M₁.states * M₂.states = length-take-le _ s l in
      ext_get_or 0 _ _ (e ∙ sym (tab-length _ _ 0))
      (λ i k. let m : i < M₁.states * M₂.states = omega arith in get_or-take (M₁.states * M₂.states) s i 0 m ∙ byte_at s S h p i m ∙ sym (tab_at _ _ i m))

  -- ---- a round by its rows

  -- after all rows of round r the table is round r + 1
  pub worked_round : ReadsPairs O M₁ M₂ G → (r : ℕ) (S : ℕ → ℕ → ℕ) (before out : List ℕ) → SameTable O M₁ M₂ S (round_of O M₁ M₂ G r) → Worked M₁ M₂ G S before M₁.states out → SameTable O M₁ M₂ (table_of out M₂.states) (round_of O M₁ M₂ G (suc r))
  unfolding round_of
  worked_round cong r S before out h w q₁ l q₂ m = w.rows q₁ l q₂ m ∙ cong _ _ h q₁ q₂

  -- a row of G has elements alone, where G gives elements
  pub row_elements : ((S : ℕ → ℕ → ℕ) (q₁ q₂ : ℕ) → Element O (G S q₁ q₂)) → (S : ℕ → ℕ → ℕ) (q : ℕ) (out : List ℕ) → q < M₁.states → M₁.states * M₂.states ≤ length out → ((i : ℕ) → i < M₁.states * M₂.states → Element O (get_or out i 0)) → (i : ℕ) → i < M₁.states * M₂.states → Element O (get_or (row_written M₁ M₂ G S q out) i 0)
  row_elements given S q out l h e =
      let n = tab-length (G S q) M₂.states 0 in
      written_all (q * M₂.states) (tab (G S q) M₂.states 0) out (omega (arith, n, row_le q M₁.states M₂.states l)) (Element O) (M₁.states * M₂.states)
      (λ i k. rw (tab_at (G S q) M₂.states i (omega (arith, n))) (given S q i))
      e

  -- ---- the test for a simulation

  pub simulation_test_lem : (S : ℕ → ℕ → ℕ) → (simulation_test M₁ M₂ G S ≡ true) ↔ FixedBy O M₁ M₂ G S
  unfolding simulation_test row_same
  simulation_test_lem S = (
    λ t q₁ l q₂ m. eqb-true _ _ (all_at _ (entry_same M₁ M₂ G S q₁) (all_at _ (row_same M₁ M₂ G S) t q₁ l) q₂ m),
    λ s. all_in _ _ (λ q₁ l. all_in _ _ (λ q₂ m. eq-eqb _ _ (s q₁ l q₂ m))),
  )

  -- ---- the test whether a table is at or below G of it

  pub post_fixed_test_lem : (S : ℕ → ℕ → ℕ) → (post_fixed_test O M₁ M₂ G S ≡ true) ↔ PostFixedBy O M₁ M₂ G S
  unfolding post_fixed_test row_at_most
  post_fixed_test_lem S = (
    λ t q₁ l q₂ m. all_at _ (entry_at_most O M₁ M₂ G S q₁) (all_at _ (row_at_most O M₁ M₂ G S) t q₁ l) q₂ m,
    λ s. all_in _ _ (λ q₁ l. all_in _ _ (λ q₂ m. s q₁ l q₂ m)),
  )

  -- ---- whether a round changed anything

  -- no row changed exactly when the table is a simulation: 'this round equals the one before'
  pub unchanged_simulation : (S : ℕ → ℕ → ℕ) → (changed_below M₁ M₂ G S M₁.states ≡ false) ↔ FixedBy O M₁ M₂ G S
  unfolding changed_below simulation_test
  unchanged_simulation S = (λ e. (simulation_test_lem S).0 (not-false _ e), λ s. ap not ((simulation_test_lem S).1 s))

  pub unchanged_round : ReadsPairs O M₁ M₂ G → (r : ℕ) (S : ℕ → ℕ → ℕ) → SameTable O M₁ M₂ S (round_of O M₁ M₂ G r) → (changed_below M₁ M₂ G S M₁.states ≡ false) ↔ SameTable O M₁ M₂ (round_of O M₁ M₂ G (suc r)) (round_of O M₁ M₂ G r)
  unfolding round_of
  unchanged_round cong r S h = (
    λ e q₁ l q₂ m. sym (cong _ _ h q₁ q₂) ∙ sym ((unchanged_simulation S).0 e q₁ l q₂ m) ∙ h q₁ l q₂ m,
    λ s. (unchanged_simulation S).1 (λ q₁ l q₂ m. h q₁ l q₂ m ∙ sym (s q₁ l q₂ m) ∙ sym (cong _ _ h q₁ q₂)),
  )

-- ---- a round that is worked row by row, with what it has changed so far

pub record RoundSoFar (M₁ M₂ : Model ℕ) (G : (ℕ → ℕ → ℕ) → ℕ → ℕ → ℕ) (S : ℕ → ℕ → ℕ) (before : List ℕ) (q : ℕ) (out : List ℕ) (changed : Bool) : Type 0 where
  pub worked : Worked M₁ M₂ G S before q out
  pub changed_is : changed ≡ changed_below M₁ M₂ G S q

-- the same on bytes, of a whole round: F of the table s is worked into `before`, which gives `out`
abbrev pub RoundIn : List ℕ → Lattice → List ℕ → List ℕ → List ℕ → List ℕ → List ℕ → Bool → Type 0
RoundIn w l m₁ m₂ s before out changed =
    RoundSoFar (model_of m₁) (model_of m₂) (FIn w l m₁ m₂) (table_of s (get_or m₂ 0 0)) before (get_or m₁ 0 0) out changed

module _ {M₁ M₂ : Model ℕ} {G : (ℕ → ℕ → ℕ) → ℕ → ℕ → ℕ} {S : ℕ → ℕ → ℕ} {before : List ℕ} where
  pub round_none : RoundSoFar M₁ M₂ G S before 0 before false
  round_none = record { worked = worked_none M₁ M₂ G S before; changed_is = sym (changed_none M₁ M₂ G S) }

  -- one row more: what `row` writes and answers
  pub round_more : {q : ℕ} {out next : List ℕ} {changed row now : Bool} → RoundSoFar M₁ M₂ G S before q out changed → q < M₁.states → M₁.states * M₂.states ≤ length before → next ≡ row_written M₁ M₂ G S q out → row ≡ row_changed M₁ M₂ G S q → now ≡ (changed || row) → RoundSoFar M₁ M₂ G S before (q + 1) next now
  round_more {q} {out} u l h e f g =
      record {
        worked = rw e (worked_more M₁ M₂ G S before q out l h u.worked);
        changed_is = g ∙ ap₂ ◌||◌ u.changed_is f ∙ sym (changed_more M₁ M₂ G S q);
      }

  pub round_reached : {q n : ℕ} {out : List ℕ} {changed : Bool} → RoundSoFar M₁ M₂ G S before q out changed → q ≤ n → n ≤ q → RoundSoFar M₁ M₂ G S before n out changed
  round_reached {q = q} {n = n} u a b = let e : q ≡ n = omega arith in rw e at u

not_not : (a : Bool) → not (not a) ≡ a
not_not true = refl
not_not false = refl

-- a whole round that changes nothing is the test for a simulation
pub round_test : {M₁ M₂ : Model ℕ} {G : (ℕ → ℕ → ℕ) → ℕ → ℕ → ℕ} {S : ℕ → ℕ → ℕ} {before out : List ℕ} {changed : Bool} → RoundSoFar M₁ M₂ G S before M₁.states out changed → not changed ≡ simulation_test M₁ M₂ G S
unfolding changed_below simulation_test
round_test u = ap not u.changed_is ∙ not_not _

-- what all rows of a round have made of round r: round r + 1, with nothing changed exactly when the two are equal
pub record RoundDone (O : Ops ℕ) (M₁ M₂ : Model ℕ) (G : (ℕ → ℕ → ℕ) → ℕ → ℕ → ℕ) (r : ℕ) (out : List ℕ) (changed : Bool) : Type 0 where
  pub holds : SameTable O M₁ M₂ (table_of out M₂.states) (round_of O M₁ M₂ G (suc r))
  pub unchanged : (changed ≡ false) ↔ SameTable O M₁ M₂ (round_of O M₁ M₂ G (suc r)) (round_of O M₁ M₂ G r)

pub round_done : (O : Ops ℕ) {M₁ M₂ : Model ℕ} {G : (ℕ → ℕ → ℕ) → ℕ → ℕ → ℕ} {S : ℕ → ℕ → ℕ} {before out : List ℕ} {changed : Bool} → ReadsPairs O M₁ M₂ G → (r : ℕ) → SameTable O M₁ M₂ S (round_of O M₁ M₂ G r) → RoundSoFar M₁ M₂ G S before M₁.states out changed → RoundDone O M₁ M₂ G r out changed
round_done O {M₁} {M₂} {G} {S} {before} {out} {changed} cong r h u =
    record {
      holds = worked_round O M₁ M₂ G cong r S before out h u.worked;
      unchanged = (
        λ e. (unchanged_round O M₁ M₂ G cong r S h).0 (sym u.changed_is ∙ e),
        λ s. u.changed_is ∙ (unchanged_round O M₁ M₂ G cong r S h).1 s,
      );
    }
