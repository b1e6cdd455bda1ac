-- What the entries of a row have in common, and an entry from it. Rests on Table, Words, Codes and Joins, and theory's Pairs and PairLaws.
--   StateMet, state_joined, state_passed: what one state of model 1 gives
--   meet_code, open_pair, MetSoFar: the meet over states of model 1 and the pairs that it looks at, from the words of a row; met_none, met_more,
--     met_stop, met_all: its begin and turn, where it is bottom, and its end; met_within: within the top's; top_some: where a meet is not 0, the top's word is not
--   Prepared: what a row's entries have in common; prepared_front: so with the first of its complements alone; row_gap, row_within_lem: the transitions of model 2; entry_met, entry_bottom: an entry from it
use Rattle.std.specs.Prelude.{ℕ, ◌+◌, ◌*◌, ◌≤◌, ◌<◌, ◌≡◌, refl, Bool, true, ◌&&◌, List, length, get_or, take, drop, replicate}
use Rattle.std.proofs.Math.Path.{sym, ap, ap₂}
use Rattle.std.proofs.Common.{◌∙◌, ⊎_elim, add-one, zero-add, arith}
use Rattle.std.proofs.Math.Bool.{false, not}
use Rattle.std.proofs.Math.Nat.{le_refl}
use borrow.Author.Tests.{eq-eqb, ne_eqb}
use Rattle.std.specs.Int.Bits.{bit_and, bit_or}
use Rattle.std.proofs.lemmas.Nat.{and_comm}
use Rattle.std.proofs.Math.Dec.{eqb}
use Rattle.std.proofs.lemmas.List.{length-replicate, get_or-replicate}
use Rattle.std.proofs.Common.{get_or-take}
use Rattle.theory.specs.Lists.{Filled, tab, written}
use Rattle.theory.specs.Loop.{fold, fold_cong, count_cong, tab_at, tab-length}
use Rattle.theory.specs.Simulation.{count}
use Rattle.theory.specs.Pairs.{count_pairs, looked_at, pairs}
use Rattle.theory.proofs.PairLaws.{count_pairs_cong, count_pairs_none, count_pairs_more, count_pairs_stop}
use Rattle.theory.specs.Part.{model_of}
use Rattle.theory.specs.Written.{written_after}
use Rattle.elements.specs.declared.Lattice.{Lattice}
use Rattle.elements.proofs.Folds.{decode_in_lem, bottom_of, fold_within, top_same, and_stays}
use Rattle.elements.specs.Laws.{Within}
use Rattle.elements.specs.Words.{code_in, decode_in, ops_in, Coded}
use Rattle.model.specs.Reading.{leaving_code}
use Rattle.entries.specs.Table.{table_of, EntryIs}
use Rattle.entries.specs.Words.{Rows, low_at, slice_word}
use Rattle.entries.specs.Codes.{table_code, propositions_code, join_before_code, meet_before_code, codes_of_table, InnerCoded, table_itself, WithinTop, code_within, bottom_test, top-test, joins_of, inner_of, meets-of, entry-decoded}
use Rattle.entries.specs.Joins.{join_code, words_join, Gap, lt_or_le, open_pairs, Joined, open_all}

-- ---- the meet over the states of model 1, from the words of a row

-- y met with the join of c and the join for a state, whose row of the table begins at `at`, and the pairs that this looks at
pub record StateMet (y c top : ℕ) (row table : List ℕ) (at n₂ code pairs : ℕ) : Type 0 where
  pub code_is : code ≡ bit_and y (bit_or c (join_code row table at n₂))
  pub pairs_are : pairs ≡ open_pairs top row table at n₂
  pub pairs_most : pairs ≤ n₂

-- by a join, and, of a transition that is bottom, without one
pub state_joined : {y c top at n₂ code pairs : ℕ} {row table : List ℕ} → Joined top row table at n₂ code pairs → StateMet y c top row table at n₂ (bit_and y (bit_or c code)) pairs
state_joined {y} {c} j = record { code_is = ap (λ (x : ℕ). bit_and y (bit_or c x)) j.code_is; pairs_are = j.pairs_are; pairs_most = j.pairs_most }

pub state_passed : {y c top n₂ : ℕ} {row table : List ℕ} (at : ℕ) → Within y top → c ≡ top → WithinTop top 64 row → (words_join row 0 64 ≡ top → ⊥) → n₂ ≤ 64 → StateMet y c top row table at n₂ y n₂
state_passed {y} {c} {top} {n₂} {row} {table} at w e h d l = record { code_is = rw e (top_same w _); pairs_are = open_all top row table at n₂ h d l; pairs_most = le_refl n₂ }

-- of a state whose row is the n words of a table from `at` on
pub state_at : {y c top n₂ code pairs : ℕ} {row table : List ℕ} (at n : ℕ) → n₂ ≤ 64 → n ≡ 64 → StateMet y c top row (take n (drop at table)) 0 n₂ code pairs → StateMet y c top row table at n₂ code pairs
state_at {y} {c} {top} {n₂} {row = row} {table = table} at n few s h =
    let same : (k : ℕ) → k ≤ 64 → join_code row (take n (drop at table)) 0 k ≡ join_code row table at k =
    λ k l. fold_cong bit_or 0 _ _ k (λ i m. ap (bit_and (get_or row i 0)) (ap (λ (j : ℕ). get_or (take n (drop at table)) j 0) (zero-add i) ∙ slice_word table at n i (omega arith))) in
    record {
      code_is = h.code_is ∙ ap (λ (x : ℕ). bit_and y (bit_or c x)) (same n₂ few);
      pairs_are = h.pairs_are ∙ count_cong n₂ _ _ (λ k l. ap (λ (x : ℕ). not (eqb x top)) (same k (omega arith)));
      pairs_most = h.pairs_most;
    }

module _ (x top : ℕ) (left row table : List ℕ) (n₂ : ℕ) where
  -- x met, for each state below k, with its word of `left` joined with its join
  abbrev pub meet_code : ℕ → ℕ
  meet_code k = fold bit_and x (λ i. bit_or (get_or left i 0) (join_code row table (i * 64) n₂)) k

  -- pair (i, k) is looked at
  abbrev pub open_pair : ℕ → ℕ → Bool
  open_pair i k = not (eqb (meet_code i) 0) && not (eqb (join_code row table (i * 64) k) top)

  -- the meet over the states below q, and the pairs that it looks at
  pub record MetSoFar (q code pairs : ℕ) : Type 0 where
    pub code_is : code ≡ meet_code q
    pub pairs_are : pairs ≡ count_pairs q n₂ open_pair
    pub pairs_most : pairs ≤ q * 64

  pub met_none : MetSoFar 0 x 0
  unfolding fold
  met_none = record { code_is = refl; pairs_are = sym (count_pairs_none n₂ open_pair); pairs_most = le_refl 0 }

  -- one state more, whose meet before is not bottom
  pub met_more : {q y p code pairs : ℕ} → MetSoFar q y p → (y ≡ 0 → ⊥) → n₂ ≤ 64 → StateMet y (get_or left q 0) top row table (q * 64) n₂ code pairs → MetSoFar (q + 1) code (p + pairs)
  unfolding fold
  met_more {q} {y} {p} {code} {pairs} u d few j =
      let o : eqb (meet_code q) 0 ≡ false = ne_eqb _ _ (λ e. d (u.code_is ∙ e)) in
      let e : count n₂ (open_pair q) ≡ open_pairs top row table (q * 64) n₂ = count_cong n₂ _ _ (λ k l. rw o) in
      record {
        code_is = j.code_is ∙ rw (add-one, u.code_is);
        pairs_are = rw (u.pairs_are, j.pairs_are, count_pairs_more q n₂ open_pair, e);
        pairs_most = omega (arith, u.pairs_most, j.pairs_most);
      }

  -- bottom stays bottom, and no more pairs are looked at
  pub met_stop : {q n y p : ℕ} → MetSoFar q y p → y ≡ 0 → q ≤ n → MetSoFar n 0 p
  met_stop {q} {n} u e l =
      let stays : (k : ℕ) → q ≤ k → meet_code k ≡ 0 = λ k m. and_stays _ x q k m (sym u.code_is ∙ e) in
      record {
        code_is = sym (stays n l);
        pairs_are = u.pairs_are ∙ sym (count_pairs_stop q n n₂ open_pair l (λ i k m _. ap (λ (b : Bool). not b && not (eqb (join_code row table (i * 64) k) top)) (eq-eqb _ _ (stays i m))));
        pairs_most = omega (arith, u.pairs_most);
      }

  pub met_all : {q n y p : ℕ} → MetSoFar q y p → q ≤ n → n ≤ q → MetSoFar n y p
  met_all {q} {n} u l m = let e : q ≡ n = omega arith in rw e at u

  pub met_within : {q y p : ℕ} → Within x top → MetSoFar q y p → Within y top
  met_within {q} h u = rw u.code_is (fold_within h _ q)

  -- where the meet is not bottom, the top is not
  pub top_some : {q y p : ℕ} → Within x top → MetSoFar q y p → (y ≡ 0 → ⊥) → top ≡ 0 → ⊥
  top_some {q} {y} h u d e =
      let f : Within (meet_code q) top = fold_within h _ q in
      d (u.code_is ∙ sym f.eq ∙ ap (bit_and (meet_code q)) e ∙ and_comm (meet_code q) 0)

-- ---- what was prepared

pub record Prepared (w : List ℕ) (l : Lattice) (m₁ m₂ s : List ℕ) (q₁ : ℕ) (alike left table : List ℕ) : Type 0 where
  pub alike_are : Filled (propositions_code w (code_in w l.top.0) m₁ m₂ q₁) (get_or m₂ 0 0) alike
  pub left_is : Filled (leaving_code true w m₁ q₁) (get_or m₁ 0 0) left
  pub table_is : Rows (table_code w s (get_or m₂ 0 0)) (get_or m₁ 0 0) (get_or m₂ 0 0) table
  pub room : get_or m₁ 0 0 * 64 ≤ length table

-- the first N1 complements are as good as all
pub prepared_front : {w : List ℕ} {l : Lattice} {m₁ m₂ s : List ℕ} {q₁ : ℕ} {alike left table : List ℕ} → Prepared w l m₁ m₂ s q₁ alike left table → Prepared w l m₁ m₂ s q₁ alike (take (get_or m₁ 0 0) left) table
prepared_front {m₁ = m₁} {left = left} p =
    record {
      alike_are = p.alike_are;
      left_is = record { at = λ i l. get_or-take (get_or m₁ 0 0) left i 0 l ∙ p.left_is.at i l };
      table_is = p.table_is;
      room = p.room;
    }

-- the words that were written into a row of zeros: past them all are 0, and all are within the top's
pub row_gap : (f : ℕ → ℕ) (n : ℕ) {row : List ℕ} → row ≡ written 0 (tab f n 0) (replicate 64 0) → n ≤ 64 → Gap row n 64
row_gap f n e l =
    let k = tab-length f n 0 in
    let z = length-replicate {A = ℕ} 64 0 in
    record {
      le = l;
      zeros = λ i a b. rw e (written_after 0 (tab f n 0) (replicate 64 0) (omega (arith, k, z)) i (omega (arith, k)) ∙ get_or-replicate 64 i 0 0 b);
    }

pub row_within_lem : {w : List ℕ} {l : Lattice} (c : Coded w l) (m₂ : List ℕ) (q₂ n : ℕ) {row : List ℕ} → row ≡ written 0 (tab (leaving_code false w m₂ q₂) n 0) (replicate 64 0) → n ≤ 64 → WithinTop (code_in w l.top.0) 64 row
row_within_lem {w} {l} c m₂ q₂ n {row} e l64 =
    record {
      at = λ i a.
          ⊎_elim (λ (b : i < n). rw (low_at (leaving_code false w m₂ q₂) n (replicate 64 0) e (omega (arith, length-replicate {A = ℕ} 64 0)) i b) (code_within c _))
          (λ (b : n ≤ i). rw ((row_gap (leaving_code false w m₂ q₂) n e l64).zeros i b a) (record { eq = refl })) (lt_or_le i n);
    }

-- ---- an entry from it

module _ {w : List ℕ} {l : Lattice} (c : Coded w l) {m₁ m₂ s : List ℕ} {q₁ : ℕ} {alike left table : List ℕ} (p : Prepared w l m₁ m₂ s q₁ alike left table)
    (q₂ : ℕ) (here : q₂ < get_or m₂ 0 0) (row : List ℕ) (r : (j : ℕ) → j < get_or m₂ 0 0 → get_or row j 0 ≡ leaving_code false w m₂ q₂ j) where
  abbrev top_code : ℕ
  top_code = code_in w l.top.0

  -- the joins, by the rule
  join_is : (i k : ℕ) → i < get_or m₁ 0 0 → k ≤ get_or m₂ 0 0 → join_code row table (i * 64) k ≡ join_before_code w m₂ (codes_of_table w m₂ s) q₂ i k
  join_is i k a b = fold_cong bit_or 0 _ _ k (λ j h. ap₂ bit_and (r j (omega arith)) (p.table_is.at i j a (omega arith)))

  abbrev J : ℕ → ℕ → ℕ
  J i _ = join_code row table (i * 64) (get_or m₂ 0 0)

  inner : InnerCoded w l m₁ m₂ s J q₂
  inner = record { at = λ i a. rw (join_is i (get_or m₂ 0 0) a (omega arith)) (inner_of c m₁ m₂ s q₂ (table_itself w m₁ m₂ s) i a) }

  -- and the meets
  meet_is : (k : ℕ) → k ≤ get_or m₁ 0 0 → meet_code (get_or alike q₂ 0) top_code left row table (get_or m₂ 0 0) k ≡ meet_before_code w top_code m₁ m₂ J q₁ q₂ k
  meet_is k b =
      ap (λ (x : ℕ). meet_code x top_code left row table (get_or m₂ 0 0) k) (p.alike_are.at q₂ here)
      ∙ fold_cong bit_and (propositions_code w top_code m₁ m₂ q₁ q₂) _ _ k (λ i h. ap (λ (x : ℕ). bit_or x (J i q₂)) (p.left_is.at i (omega arith)))

  looked_is : (i k : ℕ) → i < get_or m₁ 0 0 → k < get_or m₂ 0 0 → open_pair (get_or alike q₂ 0) top_code left row table (get_or m₂ 0 0) i k ≡ looked_at (ops_in w l) (model_of m₁) (model_of m₂) (table_of s (get_or m₂ 0 0)) q₁ q₂ i k
  unfolding looked_at
  looked_is i k a b =
      ap₂ (λ (x y : Bool). not x && not y)
      (ap (λ (x : ℕ). eqb x 0) (meet_is i (omega arith)) ∙ sym (bottom_test c (meets-of c m₁ m₂ s q₁ q₂ inner i (omega arith))))
      (ap (λ (x : ℕ). eqb x top_code) (join_is i k a (omega arith)) ∙ sym (top-test c (joins_of c m₁ m₂ s q₂ (table_itself w m₁ m₂ s) i k a (omega arith))))

  pub entry_met : {code n : ℕ} → MetSoFar (get_or alike q₂ 0) top_code left row table (get_or m₂ 0 0) (get_or m₁ 0 0) code n → EntryIs w l m₁ m₂ s q₁ q₂ (decode_in w code) n
  unfolding pairs
  entry_met u =
      record {
        value_is = ap (decode_in w) (u.code_is ∙ meet_is (get_or m₁ 0 0) (omega arith)) ∙ entry-decoded c m₁ m₂ s q₁ q₂ inner;
        pairs_are = u.pairs_are ∙ count_pairs_cong (get_or m₁ 0 0) (get_or m₂ 0 0) _ _ (λ i k a b. looked_is i k a b);
      }

-- an entry whose propositions' meet is bottom
pub entry_bottom : {w : List ℕ} {l : Lattice} (c : Coded w l) {m₁ m₂ s : List ℕ} {q₁ : ℕ} {alike left table : List ℕ} → Prepared w l m₁ m₂ s q₁ alike left table → (q₂ : ℕ) → q₂ < get_or m₂ 0 0 → get_or alike q₂ 0 ≡ 0 → EntryIs w l m₁ m₂ s q₁ q₂ l.bottom.0 0
entry_bottom {w} {l} c {m₁} {m₂} {alike = alike} {left = left} {table = table} p q₂ here e =
    let row = tab (leaving_code false w m₂ q₂) (get_or m₂ 0 0) 0 in
    let u = met_stop (get_or alike q₂ 0) (code_in w l.top.0) left row table (get_or m₂ 0 0) {n = get_or m₁ 0 0} (met_none _ _ _ _ _ _) e (omega arith) in
    rw (decode_in_lem c (bottom_of c) c.bottom_lt) at (entry_met c p q₂ here row (tab_at _ (get_or m₂ 0 0)) u)
