-- A join that ends once it is top, worked in blocks of 16 words; blocks whose transitions are all bottom are passed over, since they add
-- nothing. Rests on Codes, theory's Loop, Simulation, PairLaws and TestLaws, and elements' Folds and Laws.
--   join_code: the join of the first words of a row, each met with that of a table at its place; join_none, join_turn: its begin, and one word more
--   words_join: the join of words of a row alone; words_met: of a row's words, each met with that of a table; lt_or_le: two numbers in order
--   fold_on: a fold that goes on
--   block_joined, words_joined: one block more of a join, and the join of a block's words
--   Gap, gap_late, join_gap: words that are 0 add nothing
--   block_from, block_next, Listed, listed_none, listed-passed, listed_turn: the blocks that are not all 0
--   open_pairs, Joined: how many pairs a join looks at, and what it gives; FirstTop, first_top, BeforeTop: where it is top first, and before the block with which it is
--   joined-top, joined-all: a join that ended at the top, and one that did not
--   MayEnd, never_top, open_all: a join that cannot be top
use Prim.Native.Nat.{ℕ, zero, suc, ◌+◌, ◌-◌, ◌≤◌, ◌<◌}
use Rattle.std.specs.Prelude.{◌≡◌, refl, Bool, true, false, not, ◌⊎◌, List, Option, Some, None, ltb, eqb, length, get_or, take, drop, set}
use Rattle.std.proofs.Common.{sym, ap₂, ◌∙◌, inl, inr, ⊎_elim, add-zero, add-suc, le_refl, zero-add, not-suc-le-zero, add-one, arith, ltb-true, ltb-false, eq-eqb, ne_eqb, eqb-true, get_or-set_same, get_or-set_other, get_or-take, length-take-le, length-drop}
use Rattle.std.proofs.Math.Path.{ap}
use Rattle.std.proofs.lemmas.Bool.{not-false}
use Rattle.std.specs.Int.Bits.{bit_and, bit_or, or_comm}
use Rattle.std.proofs.lemmas.Nat.{and_comm}
use mir.Val.{bool_byte}
use Rattle.theory.specs.Loop.{fold, fold_cong}
use Rattle.theory.specs.Simulation.{indicator, count}
use Rattle.theory.proofs.PairLaws.{count_first}
use Rattle.theory.specs.TestLaws.{below_suc}
use Rattle.elements.proofs.Folds.{or_within, or_member, or_stays}
use Rattle.elements.specs.Laws.{Within, within-refl, within_trans, within_antisym, and_left}
use Rattle.entries.specs.Codes.{WithinTop}
use Rattle.entries.specs.Words.{slice_word}

-- the join of the first n words of `row`, each met with the word of `table` at its place from `at` on
abbrev pub join_code : List ℕ → List ℕ → ℕ → ℕ → ℕ
join_code row table at n = fold bit_or 0 (λ i. bit_and (get_or row i 0) (get_or table (at + i) 0)) n

-- the join of n words of `row` from i on
abbrev pub words_join : List ℕ → ℕ → ℕ → ℕ
words_join row i n = fold bit_or 0 (λ j. get_or row (i + j) 0) n

-- the join of x and the words of `row`, each met with the word of `codes` at its place
abbrev pub words_met : ℕ → List ℕ → List ℕ → ℕ
words_met x row codes = fold bit_or x (λ i. bit_and (get_or row i 0) (get_or codes i 0)) (length row)

-- a fold that goes on
pub fold_on : (g : ℕ → ℕ → ℕ) (x : ℕ) (f : ℕ → ℕ) (i n : ℕ) → fold g (fold g x f i) (λ j. f (i + j)) n ≡ fold g x f (i + n)
unfolding fold
fold_on g x f i zero = ap (fold g x f) (sym (add-zero i))
fold_on g x f i (suc n) = ap (λ (y : ℕ). g y (f (i + n))) (fold_on g x f i n) ∙ ap (fold g x f) (sym (add-suc i n))

-- ---- words that are 0

-- the words of a row from a on and before b are 0
pub record Gap (row : List ℕ) (a b : ℕ) : Type 0 where
  pub le : a ≤ b
  pub zeros : (i : ℕ) → a ≤ i → i < b → get_or row i 0 ≡ 0

gap_none : {row : List ℕ} (a : ℕ) → Gap row a a
gap_none a = record { le = le_refl a; zeros = λ i k l. absurd (omega arith) }

-- a part of one
pub gap_late : {row : List ℕ} {a b c : ℕ} → Gap row a c → a ≤ b → b ≤ c → Gap row b c
gap_late g l m = record { le = m; zeros = λ i k n. g.zeros i (omega arith) n }

pub lt_or_le : (a b : ℕ) → (a < b) ⊎ (b ≤ a)
lt_or_le a b = go (ltb a b) refl
  where
    go : (t : Bool) → ltb a b ≡ t → (a < b) ⊎ (b ≤ a)
    go true e = inl (ltb-true a b e)
    go false e = inr (ltb-false a b e)

-- two, one after the other
gap_on : {row : List ℕ} {a b c : ℕ} → Gap row a b → Gap row b c → Gap row a c
gap_on {row} {a} {b} {c} u v = record {
  le = omega (arith, u.le, v.le);
  zeros = λ i k l. ⊎_elim (λ (h : i < b). u.zeros i k h) (λ (h : b ≤ i). v.zeros i h l) (lt_or_le i b);
}

module _ (row table : List ℕ) (at : ℕ) where
  join-zeros : (a d : ℕ) → ((i : ℕ) → a ≤ i → i < a + d → get_or row i 0 ≡ 0) → join_code row table at (a + d) ≡ join_code row table at a
  unfolding fold
  join-zeros a zero h = ap (join_code row table at) (add-zero a)
  join-zeros a (suc d) h =
      ap (join_code row table at) (add-suc a d)
      ∙ ap (λ (x : ℕ). bit_or (join_code row table at (a + d)) (bit_and x (get_or table (at + (a + d)) 0))) (h (a + d) (omega arith) (omega arith))
      ∙ or_comm (join_code row table at (a + d)) 0 ∙ join-zeros a d (λ i k l. h i k (omega arith))

  -- they add nothing
  pub join_gap : {a b : ℕ} → Gap row a b → join_code row table at b ≡ join_code row table at a
  join_gap {a} {b} g = let e : b ≡ a + (b - a) = omega (arith, g.le) in ap (join_code row table at) e ∙ join-zeros a (b - a) (λ i k l. g.zeros i k (omega (arith, g.le)))

-- a join of no words, and one word more
pub join_none : (row table : List ℕ) (at : ℕ) → 0 ≡ join_code row table at 0
unfolding fold
join_none row table at = refl

-- one block more, of the n words from i on
pub block_joined : (row codes : List ℕ) (i n : ℕ) {x y : ℕ} → n ≡ 16 → i + 16 ≤ length row → x ≡ join_code row codes 0 i → y ≡ words_met x (take n (drop i row)) (take n (drop i codes)) → y ≡ join_code row codes 0 (i + 16)
block_joined row codes i n {x} {y} s l d e =
    let m : length (take n (drop i row)) ≡ n = length-take-le n (drop i row) (omega (arith, length-drop i row)) in
    e ∙ ap (fold bit_or x (λ j. bit_and (get_or (take n (drop i row)) j 0) (get_or (take n (drop i codes)) j 0))) m
    ∙ fold_cong bit_or x _ _ n (λ j k. ap₂ bit_and (slice_word row i n j k) (slice_word codes i n j k ∙ ap (λ (m : ℕ). get_or codes m 0) (sym (zero-add (i + j)))))
    ∙ ap (λ (z : ℕ). fold bit_or z (λ j. bit_and (get_or row (i + j) 0) (get_or codes (0 + (i + j)) 0)) n) d
    ∙ fold_on bit_or 0 (λ k. bit_and (get_or row k 0) (get_or codes (0 + k) 0)) i n
    ∙ ap (λ (m : ℕ). join_code row codes 0 (i + m)) s

-- the join of n words from i on
pub words_joined : (row : List ℕ) (i n : ℕ) {y : ℕ} → i + n ≤ length row → y ≡ words_join (take n (drop i row)) 0 (length (take n (drop i row))) → y ≡ words_join row i n
words_joined row i n l e =
    let m : length (take n (drop i row)) ≡ n = length-take-le n (drop i row) (omega (arith, length-drop i row)) in
    e ∙ ap (words_join (take n (drop i row)) 0) m
    ∙ fold_cong bit_or 0 _ _ n (λ j k. ap (λ (z : ℕ). get_or (take n (drop i row)) z 0) (zero-add j) ∙ slice_word row i n j k)

-- one word more
pub join_more : (row codes : List ℕ) (i : ℕ) {x : ℕ} → x ≡ join_code row codes 0 i → bit_or x (bit_and (get_or row i 0) (get_or codes i 0)) ≡ join_code row codes 0 (i + 1)
unfolding fold
join_more row codes i {x} e = ap (λ (y : ℕ). bit_or y (bit_and (get_or row i 0) (get_or codes i 0))) e ∙ ap (λ (k : ℕ). bit_or (join_code row codes 0 i) (bit_and (get_or row i 0) (get_or codes k 0))) (sym (zero-add i)) ∙ rw add-one

pub join_turn : (row table : List ℕ) (at i j : ℕ) {x y : ℕ} → x ≡ join_code row table at (i + j) → y ≡ bit_or x (bit_and (get_or row (i + j) 0) (get_or table (at + i + j) 0)) → y ≡ join_code row table at (i + (j + 1))
unfolding fold
join_turn row table at i j d e =
    let z : suc (i + j) ≡ i + (j + 1) = omega arith in
    let k : at + i + j ≡ at + (i + j) = omega arith in
    e ∙ ap₂ (λ (x l : ℕ). bit_or x (bit_and (get_or row (i + j) 0) (get_or table l 0))) d k ∙ ap (join_code row table at) z

-- ---- the blocks that are not all 0

-- from where on block c was looked for: from 0, and then from the end of the one before
abbrev pub block_from : List ℕ → ℕ → ℕ
block_from starts zero = 0
block_from starts (suc c) = get_or starts c 0 + 16

pub block_next : (starts : List ℕ) (c : ℕ) → block_from starts (c + 1) ≡ get_or starts c 0 + 16
block_next starts c = rw add-one

-- blocks of 16 words of a row begin at the first `len` places of `starts`, and between them all words before `upto` are 0
pub record Listed (row starts : List ℕ) (len upto : ℕ) : Type 0 where
  pub fits : (c : ℕ) → c < len → get_or starts c 0 + 16 ≤ 64
  pub gap : (c : ℕ) → c < len → Gap row (block_from starts c) (get_or starts c 0)
  pub last : Gap row (block_from starts len) upto

pub listed_none : {row starts : List ℕ} → Listed row starts 0 0
listed_none = record { fits = λ c l. absurd (not-suc-le-zero l); gap = λ c l. absurd (not-suc-le-zero l); last = gap_none 0 }

-- what is passed over is 0
pub listed-passed : {row starts : List ℕ} {len a b : ℕ} → Listed row starts len a → Gap row a b → Listed row starts len b
listed-passed u g = record { fits = u.fits; gap = u.gap; last = gap_on u.last g }

-- a place that is written past a block leaves it
block_same : (starts : List ℕ) (len v c : ℕ) → c ≤ len → block_from (set starts len v) c ≡ block_from starts c
block_same starts len v zero l = refl
block_same starts len v (suc c) l = ap (λ (x : ℕ). x + 16) (get_or-set_other starts len c v 0 (λ (z : c ≡ len). omega arith))

-- one block more
listed_more : {row starts : List ℕ} {len a : ℕ} → Listed row starts len a → len < length starts → a + 16 ≤ 64 → Listed row (set starts len a) (len + 1) (a + 16)
listed_more {row} {starts} {len} {a} u l f =
    let here = get_or-set_same starts len a 0 l in
    let there : (c : ℕ) → c < len → get_or (set starts len a) c 0 ≡ get_or starts c 0 = λ c k. get_or-set_other starts len c a 0 (λ (z : c ≡ len). omega arith) in
    rw add-one
    (record {
      fits = λ c k. below_suc {P = λ c. get_or (set starts len a) c 0 + 16 ≤ 64} (λ c m. rw (there c m) (u.fits c m)) (rw here f) c k;
      gap = λ c k.
          below_suc {P = λ c. Gap row (block_from (set starts len a) c) (get_or (set starts len a) c 0)}
          (λ c m. rw (block_same starts len a c (omega arith), there c m) (u.gap c m))
          (rw (block_same starts len a len (le_refl len), here) u.last) c k;
      last = rw here (gap_none (a + 16));
    })

-- a list of places from which what is past its blocks is cut off
pub listed_front : {row starts : List ℕ} (len : ℕ) {upto : ℕ} → Listed row starts len upto → len ≤ length starts → Listed row (take len starts) (length (take len starts)) upto
listed_front {row} {starts} len {upto} u l =
    let e : length (take len starts) ≡ len = length-take-le len starts l in
    let there : (c : ℕ) → c < len → get_or (take len starts) c 0 ≡ get_or starts c 0 = λ c k. get_or-take len starts c 0 k in
    let from : (c : ℕ) → c ≤ len → block_from (take len starts) c ≡ block_from starts c = front_from starts len in
    rw e
    (record {
      fits = λ c k. rw (there c k) (u.fits c k);
      gap = λ c k. rw (from c (omega arith), there c k) (u.gap c k);
      last = rw (from len (le_refl len)) u.last;
    })
  where
    front_from : (starts : List ℕ) (len c : ℕ) → c ≤ len → block_from (take len starts) c ≡ block_from starts c
    front_from starts len zero k = refl
    front_from starts len (suc c) k = ap (λ (x : ℕ). x + 16) (get_or-take len starts c 0 k)

-- where the join of n words from i on is 0, each of them is
gap_words : (row : List ℕ) (i n : ℕ) → words_join row i n ≡ 0 → Gap row i (i + n)
gap_words row i n e =
    record {
      le = omega arith;
      zeros = λ k a b.
          let z : i + (k - i) ≡ k = omega arith in
          let u : Within (get_or row (i + (k - i)) 0) (words_join row i n) = or_member (λ j. get_or row (i + j) 0) n (k - i) (omega arith) in
          ap (λ (x : ℕ). get_or row x 0) (sym z) ∙ sym u.eq ∙ ap (bit_and (get_or row (i + (k - i)) 0)) e ∙ and_comm (get_or row (i + (k - i)) 0) 0;
    }

-- a place that is written past the list leaves the list
listed_same : {row starts : List ℕ} {len a : ℕ} (v : ℕ) → Listed row starts len a → Listed row (set starts len v) len a
listed_same {row} {starts} {len} {a} v u =
    let there : (c : ℕ) → c < len → get_or (set starts len v) c 0 ≡ get_or starts c 0 = λ c k. get_or-set_other starts len c v 0 (λ (z : c ≡ len). omega arith) in
    record {
      fits = λ c m. rw (there c m) (u.fits c m);
      gap = λ c m. rw (block_same starts len v c (omega arith), there c m) (u.gap c m);
      last = rw (block_same starts len v len (le_refl len)) u.last;
    }

pub byte_indicator : (b : Bool) → bool_byte b ≡ indicator b
byte_indicator true = refl
byte_indicator false = refl

-- a turn of the loop that lists them
pub listed_turn : {row starts : List ℕ} {len a : ℕ} (b : Bool) → Listed row starts len a → len < length starts → a + 16 ≤ 64 → b ≡ not (eqb (words_join row a 16) 0) → Listed row (set starts len a) (len + indicator b) (a + 16)
listed_turn true u l f e = listed_more u l f
listed_turn {row} {starts} {len} {a} false u l f e = rw (add-zero len) (listed-passed (listed_same a u) (gap_words row a 16 (eqb-true _ _ (not-false _ (sym e)))))

-- ---- joins grow, and stay at the top's

module _ (top : ℕ) (row table : List ℕ) (at : ℕ) where
  abbrev J : ℕ → ℕ
  J = join_code row table at

  module _ (h : WithinTop top 64 row) where
    join-stays : (a b : ℕ) → a ≤ b → b ≤ 64 → J a ≡ top → J b ≡ top
    join-stays a b l m e = or_stays _ a b l (λ i k. within_trans (and_left _ _) (h.at i (omega arith))) (rw e (within-refl top))

  -- how many pairs a join over the first n words looks at: those at which it is not top yet
  abbrev pub open_pairs : ℕ → ℕ
  open_pairs n = count n (λ k. not (eqb (J k) top))

  -- what a join gives: its code, and that number
  pub record Joined (n code pairs : ℕ) : Type 0 where
    pub code_is : code ≡ J n
    pub pairs_are : pairs ≡ open_pairs n
    pub pairs_most : pairs ≤ n

  -- the join is top at k, and not before
  pub record FirstTop (k : ℕ) : Type 0 where
    pub most : k ≤ 64
    pub reached : J k ≡ top
    pub not_before : (j : ℕ) → j < k → J j ≡ top → ⊥

  -- the join before the block at i is not top, and that with it is; of no block, it never is
  pub record BeforeTop (code : ℕ) (block : Option ℕ) : Type 0 where
    pub not_top : code ≡ top → ⊥
    pub found : (i : ℕ) → block ≡ Some i → (code ≡ J i) × (i + 16 ≤ 64) × (J (i + 16) ≡ top)
    pub none : block ≡ None → code ≡ J 64

  -- the join before word k is not top, and that with it is
  pub first_top : WithinTop top 64 row → {k : ℕ} → k < 64 → (J k ≡ top → ⊥) → J (k + 1) ≡ top → FirstTop (k + 1)
  first_top h {k} l d e = record { most = omega arith; reached = e; not_before = λ j m t. d (join-stays h j k (omega arith) (omega arith) t) }

  module _ (h : WithinTop top 64 row) {n : ℕ} (g : Gap row n 64) where
    -- it is so by the last word that is not 0
    first_most : {k : ℕ} → FirstTop k → k ≤ n
    first_most {k} f =
        ⊎_elim (λ (l : n < k). absurd (f.not_before n l (sym (join_gap row table at (record { le = omega arith; zeros = λ i a b. g.zeros i a (omega (arith, f.most)) })) ∙ f.reached)))
        (λ (l : k ≤ n). l) (lt_or_le n k)

    pub joined-top : {k code : ℕ} → code ≡ top → FirstTop k → Joined n code k
    joined-top {k} e f =
        let m = first_most f in
        record {
          code_is = e ∙ sym (join-stays h k n m g.le f.reached);
          pairs_are = sym (count_first k n _ m (λ j l. ap not (ne_eqb _ _ (f.not_before j l))) (λ j l i. ap not (eq-eqb _ _ (join-stays h k j l (omega (arith, g.le)) f.reached))));
          pairs_most = m;
        }

    -- it is not top with the last word, so at none before
    pub joined-all : {code : ℕ} → code ≡ J 64 → (code ≡ top → ⊥) → Joined n code n
    joined-all {code} e d =
        let z : J 64 ≡ J n = join_gap row table at g in
        record {
          code_is = e ∙ z;
          pairs_are = sym (count_first n n _ (le_refl n) (λ j l. ap not (ne_eqb _ _ (λ (t : J j ≡ top). d (e ∙ join-stays h j 64 (omega (arith, g.le)) (le_refl 64) t)))) (λ j l i. absurd (omega arith)));
          pairs_most = le_refl n;
        }

-- ---- joins that cannot be top

-- where the answer is no, the join of all words of a row is not top
pub record MayEnd (top : ℕ) (row : List ℕ) (answer : Bool) : Type 0 where
  pub no : answer ≡ false → words_join row 0 64 ≡ top → ⊥

-- then no join with a row of a table is
pub never_top : (top : ℕ) (row table : List ℕ) (at : ℕ) → WithinTop top 64 row → (words_join row 0 64 ≡ top → ⊥) → (k : ℕ) → k ≤ 64 → join_code row table at k ≡ top → ⊥
never_top top row table at h d k l e =
    let in_all : (i : ℕ) → i < k → Within (bit_and (get_or row i 0) (get_or table (at + i) 0)) (words_join row 0 64) =
    λ i m. let z : 0 + i ≡ i = omega arith in within_trans (and_left _ _) (rw z at (or_member (λ j. get_or row (0 + j) 0) 64 i (omega arith))) in
    let all_in : Within (words_join row 0 64) top = or_within (λ j. get_or row (0 + j) 0) 64 (λ i m. let z : 0 + i ≡ i = omega arith in rw z (h.at i m)) in
    d (within_antisym all_in (rw e at (or_within (λ i. bit_and (get_or row i 0) (get_or table (at + i) 0)) k in_all)))

-- so all its pairs are looked at
pub open_all : (top : ℕ) (row table : List ℕ) (at n : ℕ) → WithinTop top 64 row → (words_join row 0 64 ≡ top → ⊥) → n ≤ 64 → n ≡ open_pairs top row table at n
open_all top row table at n h d l = sym (count_first n n _ (le_refl n) (λ j m. ap not (ne_eqb _ _ (never_top top row table at h d j (omega arith)))) (λ j m i. absurd (omega arith)))
