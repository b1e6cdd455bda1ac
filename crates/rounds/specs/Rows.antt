-- Tables of words with 64 to a row, filled by columns. Rests on entries' Words.
--   table_words: how many words there are
--   Spread, spread_none, spread_more, spread_all, spread_as: what is written into one column
--   rows_empty, rows_column, columns_all: the columns so far
use Rattle.std.specs.Prelude.{ℕ, ◌+◌, ◌*◌, ◌≤◌, ◌<◌, ◌≡◌, refl, List, length, get_or, set}
use Rattle.std.proofs.Common.{◌∙◌, ⊎_elim, not-suc-le-zero, eq-or-lt_of_le, arith, length-set, get_or-set_same, get_or-set_other}
use Rattle.entries.specs.Words.{Rows}

-- how many words a table of 64 rows has
abbrev pub table_words : ℕ
table_words = 4096

-- the first n words of a column are as the rule says, and all words of other columns as before
pub record Spread (f : ℕ → ℕ) (n column : ℕ) (before out : List ℕ) : Type 0 where
  pub at : (i : ℕ) → i < n → get_or out (i * 64 + column) 0 ≡ f i
  pub others : (i j : ℕ) → j < 64 → (j ≡ column → ⊥) → get_or out (i * 64 + j) 0 ≡ get_or before (i * 64 + j) 0
  pub same_length : length out ≡ length before

module _ {f : ℕ → ℕ} {column : ℕ} {before : List ℕ} where
  pub spread_none : Spread f 0 column before before
  spread_none = record { at = λ i l. absurd (not-suc-le-zero l); others = λ i j l d. refl; same_length = refl }

  pub spread_more : {n v : ℕ} {out : List ℕ} → Spread f n column before out → column < 64 → n * 64 + column < length out → v ≡ f n → Spread f (n + 1) column before (set out (n * 64 + column) v)
  spread_more {n} {v} {out} u c l e =
      record {
        at = λ i k.
            ⊎_elim
            (λ (p : i ≡ n). rw p (get_or-set_same out (n * 64 + column) v 0 l ∙ e))
            (λ (p : i < n). get_or-set_other out (n * 64 + column) (i * 64 + column) v 0 (λ (z : i * 64 + column ≡ n * 64 + column). omega arith) ∙ u.at i p)
            (eq-or-lt_of_le (omega arith));
        others = λ i j k d. get_or-set_other out (n * 64 + column) (i * 64 + j) v 0 (λ (z : i * 64 + j ≡ n * 64 + column). d (omega arith)) ∙ u.others i j k d;
        same_length = length-set out (n * 64 + column) v ∙ u.same_length;
      }

  pub spread_all : {i n : ℕ} {out : List ℕ} → Spread f i column before out → i ≤ n → n ≤ i → Spread f n column before out
  spread_all {i} {n} u p q = let e : i ≡ n = omega arith in rw e at u

-- by a rule that says the same
pub spread_as : {f g : ℕ → ℕ} {n column : ℕ} {before out : List ℕ} → Spread f n column before out → ((i : ℕ) → i < n → f i ≡ g i) → Spread g n column before out
spread_as u e = record { at = λ i l. u.at i l ∙ e i l; others = u.others; same_length = u.same_length }

pub rows_empty : {f : ℕ → ℕ → ℕ} {n₁ : ℕ} {xs : List ℕ} → Rows f n₁ 0 xs
rows_empty = record { at = λ q r l m. absurd (not-suc-le-zero m) }

-- one column more
pub rows_column : {f : ℕ → ℕ → ℕ} {g : ℕ → ℕ} {n₁ n₂ : ℕ} {xs ys : List ℕ} → Rows f n₁ n₂ xs → n₂ < 64 → Spread g n₁ n₂ xs ys → ((q : ℕ) → q < n₁ → g q ≡ f q n₂) → Rows f n₁ (n₂ + 1) ys
rows_column {n₁} {n₂} h few s same =
    record {
      at = λ q r i j.
          ⊎_elim
          (λ (p : r ≡ n₂). rw p (s.at q i ∙ same q i))
          (λ (p : r < n₂). s.others q r (omega arith) (λ (e : r ≡ n₂). omega arith) ∙ h.at q r i p)
          (eq-or-lt_of_le (omega arith));
    }

pub columns_all : {f : ℕ → ℕ → ℕ} {n₁ i n : ℕ} {xs : List ℕ} → Rows f n₁ i xs → i ≤ n → n ≤ i → Rows f n₁ n xs
columns_all {i = i} {n = n} u p q = let e : i ≡ n = omega arith in rw e at u
