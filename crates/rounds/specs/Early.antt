-- Rows of words whose joins have all reached the top, or whose meets have all reached bottom: no more turns are needed. Rests on entries' Words and
-- Codes, and elements' Words, Folds and Laws.
--   TopOf, top_of: the word that all codes are within
--   AtTop, Lower, lower_none, lower_more, at_top, lower_fold: all words of a row are top, by their meet; joins_end: then their joins are whole
--   AtBottom, upper_none, upper_more, at_bottom, upper_fold: all words of a row are 0, by their join; meets_end: then their meets are whole
--   fold_set: one word more of a row is written and folded
use Rattle.std.specs.Prelude.{ℕ, zero, suc, ◌+◌, ◌≤◌, ◌<◌, ◌≡◌, List, length, get_or, set}
use Rattle.std.proofs.Common.{sym, ap, ap₂, ◌∙◌, ⊎_elim, not-suc-le-zero, eq-or-lt_of_le, arith, get_or-set_same, get_or-set_other}
use Rattle.std.specs.Int.Bits.{bit_and, bit_or}
use Rattle.std.proofs.lemmas.Nat.{and_comm}
use Rattle.theory.specs.Lists.{Filled}
use Rattle.theory.specs.Loop.{fold, fold_cong}
use Rattle.theory.specs.TestLaws.{below_suc}
use Rattle.elements.specs.declared.Lattice.{Lattice}
use Rattle.elements.specs.Words.{code_in, Coded}
use Rattle.elements.proofs.Folds.{or_member, or_stays, and_stays}
use Rattle.elements.specs.Laws.{Within, within_trans, and_left, and_right, or_left, or_right}
use Rattle.entries.specs.Words.{RowFolded}
use Rattle.entries.specs.Codes.{WithinTop, code_within}

-- every code is within `top`
pub record TopOf (w : List ℕ) (top : ℕ) : Type 0 where
  pub at : (a : ℕ) → Within (code_in w a) top

pub top_of : {w : List ℕ} {l : Lattice} → Coded w l → {top : ℕ} → top ≡ code_in w l.top.0 → TopOf w top
top_of c e = record { at = λ a. rw e (code_within c a) }

-- ---- joins

-- x is within each of the first n words of a row; with x the top's word, they are top
pub record Lower (x n : ℕ) (row : List ℕ) : Type 0 where
  pub at : (i : ℕ) → i < n → Within x (get_or row i 0)

abbrev pub AtTop : ℕ → ℕ → List ℕ → Type 0
AtTop top n row = Lower top n row

pub lower_none : {x : ℕ} {row : List ℕ} → Lower x 0 row
lower_none = record { at = λ i l. absurd (not-suc-le-zero l) }

pub lower_more : {x n : ℕ} {row : List ℕ} (v : ℕ) → Lower x n row → n < length row → Lower (bit_and x v) (n + 1) (set row n v)
lower_more {x} {n} {row} v u l = record {
  at = λ i k.
      ⊎_elim (λ (p : i ≡ n). rw (p, get_or-set_same row n v 0 l) (and_right x v))
      (λ (p : i < n). rw (get_or-set_other row n i v 0 (λ (z : i ≡ n). omega arith)) (within_trans (and_left x v) (u.at i p)))
      (eq-or-lt_of_le (omega arith));
}

pub at_top : {x top i n : ℕ} {row : List ℕ} → Lower x i row → n ≤ i → x ≡ top → AtTop top n row
at_top u l e = record { at = λ k m. rw e at (u.at k (omega arith)) }

-- the meet of the words is within each of them
pub lower_fold : (x n : ℕ) (row : List ℕ) → Lower (fold bit_and x (λ i. get_or row i 0) n) n row
unfolding fold
lower_fold x zero row = lower_none
lower_fold x (suc n) row =
    let y = fold bit_and x (λ i. get_or row i 0) n in
    record {
      at = below_suc {P = λ i. Within (bit_and y (get_or row n 0)) (get_or row i 0)} (λ i l. within_trans (and_left y (get_or row n 0)) ((lower_fold x n row).at i l)) (and_right y (get_or row n 0));
    }

-- joins that are all top after k turns are those after all n turns
pub joins_end : {top m k n : ℕ} {f : ℕ → ℕ → ℕ} {row : List ℕ} → RowFolded bit_or (λ q. 0) f k m row → AtTop top m row → ((q i : ℕ) → Within (f q i) top) → k ≤ n → Filled (λ q. fold bit_or 0 (f q) n) m row
joins_end {top} {m} {k} {n} {f} {row} h t b l = record {
  at = λ q j.
      let u : Within top (fold bit_or 0 (f q) k) = rw (h.at q j) at (t.at q j) in
      h.at q j ∙ or_stays (f q) k k (omega arith) (λ i _. b q i) u ∙ sym (or_stays (f q) k n l (λ i _. b q i) u);
}

-- ---- meets

-- each of the first n words of a row is within 0, and so is 0
abbrev pub AtBottom : ℕ → List ℕ → Type 0
AtBottom n row = WithinTop 0 n row

-- the first n words of a row are within a word x: `WithinTop`, with x for the top's
pub upper_none : {x : ℕ} {row : List ℕ} → WithinTop x 0 row
upper_none = record { at = λ i l. absurd (not-suc-le-zero l) }

pub upper_more : {x n : ℕ} {row : List ℕ} (v : ℕ) → WithinTop x n row → n < length row → WithinTop (bit_or x v) (n + 1) (set row n v)
upper_more {x} {n} {row} v u l = record {
  at = λ i k.
      ⊎_elim (λ (p : i ≡ n). rw (p, get_or-set_same row n v 0 l) (or_right x v))
      (λ (p : i < n). rw (get_or-set_other row n i v 0 (λ (z : i ≡ n). omega arith)) (within_trans (u.at i p) (or_left x v)))
      (eq-or-lt_of_le (omega arith));
}

pub at_bottom : {x i n : ℕ} {row : List ℕ} → WithinTop x i row → n ≤ i → x ≡ 0 → AtBottom n row
at_bottom u l e = record { at = λ k m. rw e at (u.at k (omega arith)) }

-- each of the words is within their join
pub upper_fold : (n : ℕ) (row : List ℕ) → WithinTop (fold bit_or 0 (λ i. get_or row i 0) n) n row
upper_fold n row = record { at = or_member (λ i. get_or row i 0) n }

-- meets that are all bottom after k turns are those after all n turns
pub meets_end : {m k n : ℕ} {start : ℕ → ℕ} {f : ℕ → ℕ → ℕ} {row : List ℕ} → RowFolded bit_and start f k m row → AtBottom m row → k ≤ n → Filled (λ q. fold bit_and (start q) (f q) n) m row
meets_end {m} {k} {n} {start} {f} {row} h t l = record {
  at = λ q j.
      let z : get_or row q 0 ≡ 0 = sym (t.at q j).eq ∙ and_comm (get_or row q 0) 0 in
      z ∙ sym (and_stays (f q) (start q) k n l (sym (h.at q j) ∙ z));
}

-- ---- a row that is written word by word

pub fold_set : (h : ℕ → ℕ → ℕ) (start n v : ℕ) (row : List ℕ) → n < length row → fold h start (λ i. get_or (set row n v) i 0) (n + 1) ≡ h (fold h start (λ i. get_or row i 0) n) v
unfolding fold
fold_set h start n v row l =
    let e : n + 1 ≡ suc n = omega arith in
    ap (fold h start (λ i. get_or (set row n v) i 0)) e
    ∙ ap₂ h (fold_cong h start _ _ n (λ i k. get_or-set_other row n i v 0 (λ (z : i ≡ n). omega arith))) (get_or-set_same row n v 0 l)
