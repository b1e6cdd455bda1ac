-- The rows of a round from a given one on, worked one after another; all rows so worked are a whole round. Rests on Table, Round and entries' Table.
--   rows_from, rows_changed: m rows from row q on, each in its place; whether one of them differs
--   RestIn: the same on bytes, from row q to the last
--   row_length: a row keeps the length
--   rest_none, rest_more, rest_done: the loop over the rows from q on, by RestSoFar
--   round_rest: a whole round is the rows from 0 on
use Prim.Native.Nat.{ℕ, zero, suc, ◌+◌, ◌*◌, ◌-◌, ◌/◌, ◌%◌, ◌≤◌, ◌<◌}
use Rattle.std.specs.Prelude.{◌≡◌, Bool, true, false, ◌||◌, List, ltb, length, get_or}
use Rattle.std.proofs.Math.Path.{refl, sym}
use Rattle.std.proofs.Common.{ap, ◌∙◌, div-add-mod', div-lt_iff_lt-mul, mod-lt, ltb-true, ltb-false, ext_get_or}
use Rattle.std.proofs.Math.Bool.{or-false, or_assoc}
use native.Mathlib.Omega.{arith}
use Rattle.theory.specs.Model.{Model}
use Rattle.theory.specs.Part.{model_of}
use Rattle.theory.specs.Loop.{tab-length}
use Rattle.theory.specs.Lists.{tab}
use Rattle.theory.specs.Written.{written-length}
use Rattle.elements.specs.declared.Lattice.{Lattice}
use Rattle.model.specs.Places.{row_le}
use Rattle.entries.specs.Table.{table_of, FIn}
use Rattle.rounds.specs.Table.{row_written, row_changed}
use Rattle.rounds.specs.Round.{Worked, RoundSoFar, round_none, round_more}

module _ (M₁ M₂ : Model ℕ) (G : (ℕ → ℕ → ℕ) → ℕ → ℕ → ℕ) (S : ℕ → ℕ → ℕ) where
  -- the list with m rows of G S in their places, from row q on
  unfoldable pub rows_from : ℕ → ℕ → List ℕ → List ℕ
  rows_from zero q out = out
  rows_from (suc m) q out = rows_from m (q + 1) (row_written M₁ M₂ G S q out)

  -- one of these rows differs from that of S
  unfoldable pub rows_changed : ℕ → ℕ → Bool
  rows_changed zero q = false
  rows_changed (suc m) q = row_changed M₁ M₂ G S q || rows_changed m (q + 1)

-- the rows of F of the table s from row q to the last are worked into `before`, which gives `out`; `changed` says whether one of them differs
abbrev pub RestIn : List ℕ → Lattice → List ℕ → List ℕ → List ℕ → ℕ → List ℕ → List ℕ → Bool → Type 0
RestIn w l m₁ m₂ s q before out changed =
    (out ≡ rows_from (model_of m₁) (model_of m₂) (FIn w l m₁ m₂) (table_of s (get_or m₂ 0 0)) (get_or m₁ 0 0 - q) q before)
    × (changed ≡ rows_changed (model_of m₁) (model_of m₂) (FIn w l m₁ m₂) (table_of s (get_or m₂ 0 0)) (get_or m₁ 0 0 - q) q)

module _ (M₁ M₂ : Model ℕ) (G : (ℕ → ℕ → ℕ) → ℕ → ℕ → ℕ) (S : ℕ → ℕ → ℕ) where
  pub row_length : (q : ℕ) (out : List ℕ) → q < M₁.states → M₁.states * M₂.states ≤ length out → length (row_written M₁ M₂ G S q out) ≡ length out
  row_length q out l h = written-length (q * M₂.states) (tab (G S q) M₂.states 0) out (omega (arith, tab-length (G S q) M₂.states 0, row_le q M₁.states M₂.states l))

  -- in a loop over the rows from `from` on: what is left to do gives the same as what there was to do
  pub record RestSoFar (from : ℕ) (before : List ℕ) (q : ℕ) (out : List ℕ) (changed : Bool) : Type 0 where
    pub out_is : rows_from M₁ M₂ G S (M₁.states - q) q out ≡ rows_from M₁ M₂ G S (M₁.states - from) from before
    pub changed_is : (changed || rows_changed M₁ M₂ G S (M₁.states - q) q) ≡ rows_changed M₁ M₂ G S (M₁.states - from) from
    pub same_length : length out ≡ length before

module _ {M₁ M₂ : Model ℕ} {G : (ℕ → ℕ → ℕ) → ℕ → ℕ → ℕ} {S : ℕ → ℕ → ℕ} where
  -- ---- the loop

  pub rest_none : {from : ℕ} {before : List ℕ} → RestSoFar M₁ M₂ G S from before from before false
  rest_none = record { out_is = refl; changed_is = refl; same_length = refl }

  pub rest_more : {from : ℕ} {before : List ℕ} {q : ℕ} {out next : List ℕ} {changed row : Bool} → RestSoFar M₁ M₂ G S from before q out changed
      → q < M₁.states → M₁.states * M₂.states ≤ length before → next ≡ row_written M₁ M₂ G S q out → row ≡ row_changed M₁ M₂ G S q
      → RestSoFar M₁ M₂ G S from before (q + 1) next (changed || row)
  unfolding rows_from rows_changed
  rest_more {q = q} {out = out} {changed = changed} u l h e f =
      let n : M₁.states - q ≡ suc (M₁.states - (q + 1)) = omega arith in
      record {
        out_is = rw e (rw n at u.out_is);
        changed_is = rw f (or_assoc changed _ _ ∙ rw n at u.changed_is);
        same_length = rw e (row_length M₁ M₂ G S q out l (omega (arith, u.same_length)) ∙ u.same_length);
      }

  pub rest_done : {from : ℕ} {before : List ℕ} {q : ℕ} {out : List ℕ} {changed : Bool} → RestSoFar M₁ M₂ G S from before q out changed → M₁.states ≤ q
      → (out ≡ rows_from M₁ M₂ G S (M₁.states - from) from before) × (changed ≡ rows_changed M₁ M₂ G S (M₁.states - from) from)
  unfolding rows_from rows_changed
  rest_done {q = q} {changed = changed} u l =
      let n : M₁.states - q ≡ 0 = omega arith in
      (rw n at u.out_is, sym (or-false changed) ∙ rw n at u.changed_is)

  -- ---- all rows are a whole round

  -- the rows below q + m are worked where those below q are, and m rows more
  round_from : (m q : ℕ) {before out : List ℕ} {changed : Bool} → RoundSoFar M₁ M₂ G S before q out changed → q + m ≤ M₁.states
      → M₁.states * M₂.states ≤ length before → RoundSoFar M₁ M₂ G S before (q + m) (rows_from M₁ M₂ G S m q out) (changed || rows_changed M₁ M₂ G S m q)
  unfolding rows_from rows_changed
  round_from zero q {changed = changed} u l h = let n : q + 0 ≡ q = omega arith in rw (n, or-false changed) u
  round_from (suc m) q {changed = changed} u l h =
      let n : q + suc m ≡ q + 1 + m = omega arith in
      rw (n, ← or_assoc changed (row_changed M₁ M₂ G S q) (rows_changed M₁ M₂ G S m (q + 1))) (round_from m (q + 1) (round_more u (omega arith) h refl refl refl) (omega arith) h)

  -- the rows below q leave nothing open
  worked_unique : {before : List ℕ} (q : ℕ) {out other : List ℕ} → Worked M₁ M₂ G S before q out → Worked M₁ M₂ G S before q other → out ≡ other
  worked_unique q {out} {other} u v = ext_get_or 0 _ _ (u.same_length ∙ sym v.same_length) (λ i k. go i (ltb i (q * M₂.states)) refl)
    where
      go : (i : ℕ) (x : Bool) → ltb i (q * M₂.states) ≡ x → get_or out i 0 ≡ get_or other i 0
      go i true e =
          let l : i < q * M₂.states = ltb-true _ _ e in
          let p : 0 < M₂.states = some M₂.states l in
          let a = (div-lt_iff_lt-mul p).1 l in
          ap (λ (j : ℕ). get_or out j 0) (sym (div-add-mod' i M₂.states))
          ∙ u.rows (i / M₂.states) a (i % M₂.states) (mod-lt i p)
          ∙ sym (v.rows (i / M₂.states) a (i % M₂.states) (mod-lt i p))
          ∙ ap (λ (j : ℕ). get_or other j 0) (div-add-mod' i M₂.states)
        where
          some : (n : ℕ) → i < q * n → 0 < n
          some zero l = absurd (omega arith)
          some (suc n) l = omega arith
      go i false e = let l = ltb-false i (q * M₂.states) e in u.others_unchanged i l ∙ sym (v.others_unchanged i l)

  pub round_rest : {before out : List ℕ} {changed : Bool} → RoundSoFar M₁ M₂ G S before M₁.states out changed → M₁.states * M₂.states ≤ length before
      → (out ≡ rows_from M₁ M₂ G S M₁.states 0 before) × (changed ≡ rows_changed M₁ M₂ G S M₁.states 0)
  round_rest {before = before} u h =
      let n : 0 + M₁.states ≡ M₁.states = omega arith in
      let v = round_from M₁.states 0 {before = before} round_none (omega arith) h in
      let w = rw n at v in
      (worked_unique M₁.states u.worked w.worked, u.changed_is ∙ sym w.changed_is)
