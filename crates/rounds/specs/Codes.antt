-- The inner joins of a whole round, and score, by codes. w is a lattice's codes. Rests on Table, entries' Table, Words and Codes, theory's Loop and
-- Simulation, elements' Words and Folds.
--   by_row, by_column: an entry of a table of words; JoinsOf, joins_from, joins-inner: the inner joins of a table
--   initial_code, score_part, join_of, score_join, score_met, score_decoded: score
use Rattle.std.specs.Prelude.{ℕ, ◌+◌, ◌*◌, ◌≤◌, ◌<◌, ◌≡◌, List, length, get_or, take, drop}
use Rattle.std.proofs.Common.{ap, ap₂, ◌∙◌, arith, get_or-take, length-take-le}
use Rattle.std.specs.Int.Bits.{bit_and, bit_or}
use Rattle.theory.specs.Lattice.{imp}
use Rattle.theory.specs.Lists.{Filled, tab, written}
use Rattle.theory.specs.Loop.{fold, fold_cong}
use Rattle.theory.specs.Part.{model_of}
use Rattle.theory.specs.Simulation.{score}
use Rattle.elements.specs.declared.Lattice.{Lattice}
use Rattle.elements.specs.Words.{code_in, negated_code_in, decode_in, Coded}
use Rattle.elements.proofs.Folds.{decode_in_lem, code_of, negated_of, meet_of_lem, join_of_lem, big_meet_lt, fold_meets, fold_joins}
use Rattle.entries.specs.Table.{table_of}
use Rattle.entries.specs.Words.{Rows, low_at, slice_word}
use Rattle.entries.specs.Codes.{table_code, codes_of_table, inner_code, TableCoded, InnerCoded, inner_of}
use Rattle.entries.specs.Joins.{words_met}
use Rattle.rounds.specs.Table.{score_in}

-- entry (q1, q2) of a table of codes that has 64 to a row, and of one that has 64 to a column
abbrev pub by_row : List ℕ → ℕ → ℕ → ℕ
by_row table q₁ q₂ = get_or table (q₁ * 64 + q₂) 0

abbrev pub by_column : List ℕ → ℕ → ℕ → ℕ
by_column table q₁ q₂ = get_or table (q₂ * 64 + q₁) 0

-- ---- the inner joins of the table s, 64 to a row: those of q1 stand in row q1, that of q2 in column q2

pub record JoinsOf (w m₁ m₂ s joins : List ℕ) : Type 0 where
  pub table : List ℕ
  pub table_is : TableCoded w m₁ m₂ s (by_column table)
  pub joins_are : Rows (λ q₁ q₂. inner_code w m₂ (by_column table) q₂ q₁) (get_or m₁ 0 0) (get_or m₂ 0 0) joins

-- from the codes of the table by columns
pub joins_from : (w m₁ m₂ s : List ℕ) (n₁ n₂ : ℕ) (table : List ℕ) {joins : List ℕ} → Rows (λ q₂ q₁. table_code w s n₂ q₁ q₂) n₂ n₁ table → Rows (λ q₁ q₂. inner_code w m₂ (by_column table) q₂ q₁) n₁ (get_or m₂ 0 0) joins → n₁ ≡ get_or m₁ 0 0 → n₂ ≡ get_or m₂ 0 0 → JoinsOf w m₁ m₂ s joins
joins_from w m₁ m₂ s n₁ n₂ table t j e₁ e₂ =
    record {
      table = table;
      table_is = record { at = λ q r l m. rw (← e₂) (t.at r q (omega (arith, e₂)) (omega (arith, e₁))) };
      joins_are = rw e₁ at j;
    }

-- they are the codes of F's joins
pub joins-inner : {w : List ℕ} {l : Lattice} (c : Coded w l) {m₁ m₂ s joins : List ℕ} → JoinsOf w m₁ m₂ s joins → (q₂ : ℕ) → q₂ < get_or m₂ 0 0 → InnerCoded w l m₁ m₂ s (by_row joins) q₂
joins-inner c {m₁} {m₂} {s} j q₂ h = record { at = λ i k. rw (j.joins_are.at i q₂ k h) (inner_of c m₁ m₂ s q₂ j.table_is i k) }

-- ---- score

-- the initial value of a state
abbrev pub initial_code : List ℕ → List ℕ → ℕ → ℕ
initial_code w m q = code_in w ((model_of m).initial q)

-- one turn of score: the initial value of q₁ → the join over q2 of its initial value met with entry (q₁, q2) of s
abbrev pub score_part : List ℕ → List ℕ → List ℕ → List ℕ → ℕ → ℕ
score_part w m₁ m₂ s q₁ =
    bit_or (negated_code_in w ((model_of m₁).initial q₁)) (fold bit_or 0 (λ i. bit_and (initial_code w m₂ i) (codes_of_table w m₂ s q₁ i)) (get_or m₂ 0 0))

-- the join of the first n words of `row`, each met with the word of `codes` at its place
abbrev pub join_of : List ℕ → List ℕ → ℕ → ℕ
join_of row codes n = fold bit_or 0 (λ i. bit_and (get_or row i 0) (get_or codes i 0)) n

-- the join of one turn, from the codes of the initial values and those of a row of entries
pub score_join : (w m₂ s : List ℕ) (q n₂ : ℕ) (before : List ℕ) {right entries : List ℕ} → Filled (initial_code w m₂) (get_or m₂ 0 0) right → entries ≡ written 0 (tab (λ i. code_in w (get_or s (q * n₂ + i) 0)) n₂ 0) before → n₂ ≤ length before → n₂ ≡ get_or m₂ 0 0 → join_of right entries n₂ ≡ fold bit_or 0 (λ i. bit_and (initial_code w m₂ i) (codes_of_table w m₂ s q i)) (get_or m₂ 0 0)
score_join w m₂ s q n₂ before f e fits g =
    rw (← g)
    (fold_cong bit_or 0 _ _ n₂
    (λ i k. ap₂ bit_and (f.at i (omega (arith, g))) (low_at (λ i. code_in w (get_or s (q * n₂ + i) 0)) n₂ before e fits i k)))

-- the same of words that are parts of rows
pub score_met : (w m₂ s : List ℕ) (q n : ℕ) (before : List ℕ) {right entries : List ℕ} {y : ℕ} → n ≡ get_or m₂ 0 0 → Filled (initial_code w m₂) (get_or m₂ 0 0) right → n ≤ length right → n ≤ length before
    → entries ≡ written 0 (tab (λ i. code_in w (get_or (take (get_or m₂ 0 0) (drop (q * get_or m₂ 0 0) s)) i 0)) (get_or m₂ 0 0) 0) before → y ≡ words_met 0 (take n right) entries
    → y ≡ fold bit_or 0 (λ i. bit_and (initial_code w m₂ i) (codes_of_table w m₂ s q i)) (get_or m₂ 0 0)
score_met w m₂ s q n before {right} {entries} g f l m e u =
    let j : length (take n right) ≡ n = length-take-le n right l in
    u ∙ ap (fold bit_or 0 (λ i. bit_and (get_or (take n right) i 0) (get_or entries i 0))) (j ∙ g)
    ∙ fold_cong bit_or 0 _ _ (get_or m₂ 0 0)
    (λ i h. ap₂ bit_and (get_or-take n right i 0 (omega arith) ∙ f.at i h)
    (low_at _ _ before e (omega arith) i h ∙ ap (code_in w) (slice_word s (q * get_or m₂ 0 0) (get_or m₂ 0 0) i h)))

module _ {w : List ℕ} {l : Lattice} (c : Coded w l) (m₁ m₂ s : List ℕ) where
  pub score_decoded : decode_in w (fold bit_and (code_in w l.top.0) (score_part w m₁ m₂ s) (get_or m₁ 0 0)) ≡ score_in w l m₁ m₂ s
  unfolding score imp
  score_decoded =
      decode_in_lem c
      (fold_meets c (get_or m₁ 0 0) _ _ (code_of c l.top.0)
      (λ q k. join_of_lem c (negated_of c ((model_of m₁).initial q))
      (fold_joins c (get_or m₂ 0 0) _ _ (λ i m. meet_of_lem c (code_of c ((model_of m₂).initial i)) (code_of c (table_of s (get_or m₂ 0 0) q i))))))
      (big_meet_lt c (get_or m₁ 0 0) _)
