-- One row: where it stands in a table, and what a loop over a row's entries has done so far.
-- Rests on entries' Table, theory's Test and Written, and model's Places.
--   RowAt, row_at: where a row stands; held_by: a table is held
--   RowSoFar: the entries so far are written and compared; row_none, row_more, row_next, row_all: its begin, turn and end
--   row_placed: a row that is written into its part
--   RowOut: the elements of codes written and compared
--   row_written_lem: at the row's end, what `row` says
use Rattle.std.specs.Prelude.{ℕ, ◌+◌, ◌*◌, ◌≤◌, ◌<◌, ◌≡◌, refl, Bool, false, not, ◌||◌, List, eqb, length, get_or, set}
use Rattle.std.proofs.Common.{sym, ap, ◌∙◌, add-one, zero-add, arith}
use Rattle.std.proofs.Common.{take, drop, ◌++◌}
use Rattle.theory.specs.TestLaws.{not_and, all_cong}
use Rattle.theory.specs.Loop.{tab-length}
use Rattle.entries.specs.Words.{part_written, slice_word}
use Rattle.theory.specs.Test.{all_below}
use Rattle.theory.specs.Written.{written_none, written_turn}
use Rattle.theory.specs.Lists.{tab, written}
use Rattle.elements.specs.Words.{decode_in}
use Rattle.model.specs.Places.{row_le}
use Rattle.entries.specs.Table.{Shaped}

-- a table for n₁ by n₂ states is held
pub held_by : (m₁ m₂ s : List ℕ) (n₁ n₂ : ℕ) → Shaped m₁ m₂ s → n₁ ≡ get_or m₁ 0 0 → n₂ ≡ get_or m₂ 0 0 → n₁ * n₂ ≤ length s
held_by m₁ m₂ s n₁ n₂ h e₁ e₂ = rw (e₁, e₂) h.held

-- ---- where row q₁ stands: the code's place of it, and n₂ columns

pub record RowAt (m₁ m₂ : List ℕ) (q₁ n₂ at : ℕ) : Type 0 where
  pub few : n₂ ≤ 64
  pub here : at ≡ q₁ * get_or m₂ 0 0
  pub within : at + n₂ ≤ get_or m₁ 0 0 * get_or m₂ 0 0

pub row_at : (m₁ m₂ s : List ℕ) (q₁ n₂ w : ℕ) → Shaped m₁ m₂ s → q₁ < get_or m₁ 0 0 → n₂ ≡ get_or m₂ 0 0 → w ≡ q₁ → RowAt m₁ m₂ q₁ n₂ (w * n₂)
row_at m₁ m₂ s q₁ n₂ w h l e f =
    rw (e, f)
    (record {
      few = h.second.states_most;
      here = refl;
      within = row_le q₁ (get_or m₁ 0 0) (get_or m₂ 0 0) l;
    })

-- ---- a loop over the entries of a row: f is written from `at` on and compared with g

pub record RowSoFar (changed : Bool) (at : ℕ) (f g : ℕ → ℕ) (before : List ℕ) (q : ℕ) (out : List ℕ) : Type 0 where
  pub out_is : out ≡ written at (tab f q 0) before
  pub changed_is : changed ≡ not (all_below q (λ i. eqb (g i) (f i)))

pub row_none : {at : ℕ} {f g : ℕ → ℕ} {before : List ℕ} → RowSoFar false at f g before 0 before
unfolding tab all_below
row_none {at} {f} {g} {before} = record { out_is = sym (written_none at before); changed_is = refl }

-- one entry more: e is written where d stood in the table that is read
pub row_more : {at : ℕ} {f g : ℕ → ℕ} {before : List ℕ} {q : ℕ} {out : List ℕ} {changed : Bool} {d e : ℕ} → RowSoFar changed at f g before q out → at + q < length before → d ≡ g q → e ≡ f q → RowSoFar (changed || not (eqb d e)) at f g before (q + 1) (set out (at + q) e)
unfolding all_below
row_more {at} {f} {g} {before} {q} u l p r =
    record {
      out_is = rw (u.out_is, r) (written_turn at f q before l);
      changed_is = rw (add-one, p, r, u.changed_is, not_and);
    }

-- of a row that stands at the front
pub row_next : {f g : ℕ → ℕ} {before : List ℕ} {q d e : ℕ} {out : List ℕ} {changed : Bool} → RowSoFar changed 0 f g before q out → q < length before → d ≡ g q → e ≡ f q → RowSoFar (changed || not (eqb d e)) 0 f g before (q + 1) (set out q e)
row_next {q = q} u l p r = rw (zero-add q) at (row_more u (omega arith) p r)

-- at the loop's end the counter has reached the row's end
pub row_all : {at : ℕ} {f g : ℕ → ℕ} {before : List ℕ} {q n : ℕ} {out : List ℕ} {changed : Bool} → RowSoFar changed at f g before q out → q ≤ n → n ≤ q → RowSoFar changed at f g before n out
row_all {q = q} {n = n} u a b = let e : q ≡ n = omega arith in rw e at u

-- a row that is written into its part of a table, from a part of another
pub row_placed : (at k n : ℕ) (s out : List ℕ) {h : ℕ → ℕ} {changed : Bool} {part : List ℕ} → k ≡ n → at + n ≤ length out → RowSoFar changed 0 h (λ q. get_or (take n (drop at s)) q 0) (take k (drop at out)) n part
    → RowSoFar changed at h (λ q. get_or s (at + q) 0) out n (take at out ++ (part ++ drop k (drop at out)))
row_placed at k n s out {h} e l u =
    record {
      out_is = ap (λ (r : List ℕ). take at out ++ (r ++ drop k (drop at out))) u.out_is ∙ part_written at k (tab h n 0) out (tab-length h n 0 ∙ sym e) (omega arith);
      changed_is = u.changed_is ∙ ap not (all_cong n _ _ (λ i m. ap (λ (x : ℕ). eqb x (h i)) (slice_word s at n i m)));
    }

-- the elements of n codes are written into `before` from `at` on, which gives `out`; `changed` says whether any differs from that of s
abbrev pub RowOut : List ℕ → List ℕ → List ℕ → ℕ → ℕ → List ℕ → List ℕ → Bool → Type 0
RowOut w codes s at n before out changed = RowSoFar changed at (λ q. decode_in w (get_or codes q 0)) (λ q. get_or s (at + q) 0) before n out

pub row_written_lem : {m₁ m₂ : List ℕ} {q₁ n₂ at : ℕ} {f g : ℕ → ℕ} {before out : List ℕ} {changed : Bool} → RowAt m₁ m₂ q₁ n₂ at → n₂ ≡ get_or m₂ 0 0 → RowSoFar changed at f g before n₂ out → (out ≡ written (q₁ * get_or m₂ 0 0) (tab f (get_or m₂ 0 0) 0) before) × (changed ≡ not (all_below (get_or m₂ 0 0) (λ i. eqb (g i) (f i))))
row_written_lem h e u = (rw (← h.here, ← e) u.out_is, rw (← e) u.changed_is)
