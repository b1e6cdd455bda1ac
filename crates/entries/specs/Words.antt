-- Rows of words: 64 to a row of a table, words that are replaced where they stand, and rows of folds. Rests on theory's Loop, Lists and Written.
--   row_words: how many words a row has
--   Rows: the words of a table are as a rule says; rows_none, rows_more, rows_all: the rows so far; slice_word, part_written, rows_part: a word of a part, and a row written into its part
--   low_at: a word that was written from place 0 on
--   Replaced, replaced_none, replaced_more, replaced_all, replaced_same, replaced_as, replaced_part: each of the first words is replaced by a rule
--   RowFolded, row_folded_none, row_folded_more, row_folded_all, filled_part, filled_same: a row of folds, each word of which is replaced at each turn
use Rattle.std.specs.Prelude.{ℕ, ◌+◌, ◌*◌, ◌≤◌, ◌<◌, ◌≡◌, refl, List, [], ◌++◌, length, get_or, set, take, drop, replicate}
use Rattle.std.proofs.Common.{sym, ap, ◌∙◌, ⊎_elim, not-suc-le-zero, eq-or-lt_of_le, arith, append_assoc, append-nil, length-set, length-drop, length-take-le, get_or-set_same, get_or-set_other, get_or-take, get_or-drop}
use Rattle.std.proofs.lemmas.List.{drop-drop, drop_all, get_or-replicate}
use Rattle.theory.specs.Lists.{Filled, tab, written}
use Rattle.theory.specs.Loop.{tab-length, fold, folded_none, folded_more}
use Rattle.theory.specs.Written.{written-before, slice_at}

-- how many words a row has
abbrev pub row_words : ℕ
row_words = 64

-- row q of n₁ rows of n₂ words is as the rule says
pub record Rows (f : ℕ → ℕ → ℕ) (n₁ n₂ : ℕ) (xs : List ℕ) : Type 0 where
  pub at : (q r : ℕ) → q < n₁ → r < n₂ → get_or xs (q * 64 + r) 0 ≡ f q r

-- ---- by rows

pub rows_none : {f : ℕ → ℕ → ℕ} {n₂ : ℕ} {xs : List ℕ} → Rows f 0 n₂ xs
rows_none = record { at = λ q r l m. absurd (not-suc-le-zero l) }

-- one row more, written
pub rows_more : {f : ℕ → ℕ → ℕ} {n₁ n₂ : ℕ} {xs ys : List ℕ} (g : ℕ → ℕ) → Rows f n₁ n₂ xs → n₂ ≤ 64 → n₁ * 64 + 64 ≤ length xs → ys ≡ written (n₁ * 64) (tab g n₂ 0) xs → ((r : ℕ) → r < n₂ → g r ≡ f n₁ r) → Rows f (n₁ + 1) n₂ ys
rows_more {f} {n₁} {n₂} {xs} {ys} g h m fits e same =
    let n = tab-length g n₂ 0 in
    let room : n₁ * 64 + length (tab g n₂ 0) ≤ length xs = omega (arith, n) in
    record {
      at = λ q r i j.
          ⊎_elim
          (λ (p : q ≡ n₁). rw p (slice_at (n₁ * 64) g n₂ xs e (omega arith) r j ∙ same r j))
          (λ (p : q < n₁). rw e (written-before (n₁ * 64) (tab g n₂ 0) xs room (q * 64 + r) (omega arith) ∙ h.at q r p j))
          (eq-or-lt_of_le (omega arith));
    }

-- word i of the n words of a list from a on
pub slice_word : (xs : List ℕ) (a n i : ℕ) → i < n → get_or (take n (drop a xs)) i 0 ≡ get_or xs (a + i) 0
slice_word xs a n i l = get_or-take n (drop a xs) i 0 l ∙ get_or-drop a xs i 0

-- a part of a list is written over, as it stands there
pub part_written : (a k : ℕ) (s xs : List ℕ) → length s ≡ k → a + k ≤ length xs → take a xs ++ (written 0 s (take k (drop a xs)) ++ drop k (drop a xs)) ≡ written a s xs
part_written a k s xs e l =
    let n : length (take k (drop a xs)) ≡ k = length-take-le k (drop a xs) (omega (arith, length-drop a xs)) in
    let none : drop (0 + length s) (take k (drop a xs)) ≡ [] = drop_all (0 + length s) (take k (drop a xs)) (omega arith) in
    ap (λ (r : List ℕ). take a xs ++ ((s ++ r) ++ drop k (drop a xs))) none
    ∙ ap (λ (r : List ℕ). take a xs ++ (r ++ drop k (drop a xs))) (append-nil s)
    ∙ ap (λ (r : List ℕ). take a xs ++ (s ++ r)) (drop-drop k a xs ∙ ap (λ (m : ℕ). drop (a + m) xs) (sym e))
    ∙ sym (append_assoc (take a xs) s (drop (a + length s) xs))

-- one row more, written into its part
pub rows_part : {f : ℕ → ℕ → ℕ} {n₁ n₂ k : ℕ} {xs ys : List ℕ} (g : ℕ → ℕ) → Rows f n₁ n₂ xs → n₂ ≤ 64 → n₁ * 64 + 64 ≤ length xs → k ≡ n₂ → ys ≡ written 0 (tab g n₂ 0) (take k (drop (n₁ * 64) xs)) → ((r : ℕ) → r < n₂ → g r ≡ f n₁ r) → Rows f (n₁ + 1) n₂ (take (n₁ * 64) xs ++ (ys ++ drop k (drop (n₁ * 64) xs)))
rows_part {n₁ = n₁} {n₂ = n₂} {k = k} {xs = xs} g h m fits e w same =
    let t = tab-length g n₂ 0 in
    rows_more g h m fits (ap (λ (r : List ℕ). take (n₁ * 64) xs ++ (r ++ drop k (drop (n₁ * 64) xs))) w ∙ part_written (n₁ * 64) k (tab g n₂ 0) xs (t ∙ sym e) (omega arith)) same

pub rows_all : {f : ℕ → ℕ → ℕ} {n i n₂ : ℕ} {xs : List ℕ} → Rows f i n₂ xs → i ≤ n → n ≤ i → Rows f n n₂ xs
rows_all {n = n} {i = i} u p q = let e : i ≡ n = omega arith in rw e at u

-- ---- a word that was written from place 0 on

pub low_at : (f : ℕ → ℕ) (n : ℕ) (before : List ℕ) {out : List ℕ} → out ≡ written 0 (tab f n 0) before → n ≤ length before → (i : ℕ) → i < n → get_or out i 0 ≡ f i
low_at f n before {out} e fits i l =
    let z : 0 + i ≡ i = omega arith in
    ap (λ (j : ℕ). get_or out j 0) (sym z) ∙ slice_at 0 f n before e (omega arith) i l

-- ---- words that are replaced where they stand

-- word i of the first n, x, is replaced by f i x; the others are as before
pub record Replaced (f : ℕ → ℕ → ℕ) (n : ℕ) (before out : List ℕ) : Type 0 where
  pub at : (i : ℕ) → i < n → get_or out i 0 ≡ f i (get_or before i 0)
  pub rest : (i : ℕ) → n ≤ i → get_or out i 0 ≡ get_or before i 0
  pub same_length : length out ≡ length before

module _ {f : ℕ → ℕ → ℕ} {before : List ℕ} where
  pub replaced_none : Replaced f 0 before before
  replaced_none = record { at = λ i l. absurd (not-suc-le-zero l); rest = λ i l. refl; same_length = refl }

  pub replaced_more : {n v : ℕ} {out : List ℕ} → Replaced f n before out → n < length before → v ≡ f n (get_or out n 0) → Replaced f (n + 1) before (set out n v)
  replaced_more {n} {v} {out} u l e =
      record {
        at = λ i k.
            ⊎_elim
            (λ (p : i ≡ n). rw p (get_or-set_same out n v 0 (omega (arith, u.same_length)) ∙ e ∙ ap (f n) (u.rest n (omega arith))))
            (λ (p : i < n). get_or-set_other out n i v 0 (λ (z : i ≡ n). omega arith) ∙ u.at i p)
            (eq-or-lt_of_le (omega arith));
        rest = λ i k. get_or-set_other out n i v 0 (λ (z : i ≡ n). omega arith) ∙ u.rest i (omega arith);
        same_length = length-set out n v ∙ u.same_length;
      }

  pub replaced_all : {i n : ℕ} {out : List ℕ} → Replaced f i before out → i ≤ n → n ≤ i → Replaced f n before out
  replaced_all {i} {n} u p q = let e : i ≡ n = omega arith in rw e at u

  -- nothing is replaced where the rule says so
  pub replaced_same : {n : ℕ} → ((i : ℕ) → i < n → get_or before i 0 ≡ f i (get_or before i 0)) → Replaced f n before before
  replaced_same e = record { at = e; rest = λ i l. refl; same_length = refl }

-- by a rule that says the same
pub replaced_as : {f g : ℕ → ℕ → ℕ} {n : ℕ} {before out : List ℕ} → Replaced f n before out → ((i x : ℕ) → f i x ≡ g i x) → Replaced g n before out
replaced_as u e = record { at = λ i l. u.at i l ∙ e i _; rest = u.rest; same_length = u.same_length }

-- by the words of a part of a table
pub replaced_part : {n : ℕ} {before out : List ℕ} (h : ℕ → ℕ → ℕ) (table : List ℕ) (at k : ℕ) → n ≤ k → Replaced (λ i x. h x (get_or (take k (drop at table)) i 0)) n before out → Replaced (λ i x. h x (get_or table (at + i) 0)) n before out
replaced_part h table at k l u = record { at = λ i m. u.at i m ∙ ap (h _) (slice_word table at k i (omega arith)); rest = u.rest; same_length = u.same_length }

-- ---- a row of folds

-- word q of the first n is the fold of the first k values of f q. A record, so that a goal shows g, start and f
pub record RowFolded (g : ℕ → ℕ → ℕ) (start : ℕ → ℕ) (f : ℕ → ℕ → ℕ) (k n : ℕ) (xs : List ℕ) : Type 0 where
  pub at : (q : ℕ) → q < n → get_or xs q 0 ≡ fold g (start q) (f q) k

module _ {g : ℕ → ℕ → ℕ} {start : ℕ → ℕ} {f : ℕ → ℕ → ℕ} {n : ℕ} where
  pub row_folded_none : {xs : List ℕ} → Filled start n xs → RowFolded g start f 0 n xs
  row_folded_none h = record { at = λ q l. h.at q l ∙ (folded_none {g = g} {f = f q}).eq }

  -- one turn, in which each word is replaced
  pub row_folded_more : {k : ℕ} {before out : List ℕ} {r : ℕ → ℕ → ℕ} → RowFolded g start f k n before → Replaced r n before out → ((q x : ℕ) → r q x ≡ g x (f q k)) → RowFolded g start f (k + 1) n out
  row_folded_more {k} h u e = record {
    at = λ q l. u.at q l ∙ e q _ ∙ ap (λ (x : ℕ). g x (f q k)) (h.at q l) ∙ (folded_more {f = f q} (record { eq = refl }) refl refl).eq;
  }

  pub row_folded_all : {i k : ℕ} {xs : List ℕ} → RowFolded g start f i n xs → i ≤ k → k ≤ i → Filled (λ q. fold g (start q) (f q) k) n xs
  row_folded_all {i} {k} h a b = let e : i ≡ k = omega arith in record { at = rw e at h.at }

-- a front of them
pub filled_part : {f : ℕ → ℕ} {n : ℕ} {xs : List ℕ} (k : ℕ) → k ≤ n → k ≤ length xs → Filled f n xs → Filled f (length (take k xs)) (take k xs)
filled_part {xs = xs} k a b h = let e = length-take-le k xs b in record { at = λ i l. get_or-take k xs i 0 (omega arith) ∙ h.at i (omega arith) }

-- the same word everywhere
pub filled_same : (x n : ℕ) → n ≤ 64 → Filled (λ q. x) n (replicate 64 x)
filled_same x n l = record { at = λ i k. get_or-replicate 64 i x 0 (omega arith) }
