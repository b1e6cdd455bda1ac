-- The codes that the loops over an entry compute, and that they are those of F's meets and joins. w is a lattice's codes. Rests on Table, Words, theory's
-- Loop, Part, Value, Simulation, Pairs and PairLaws, elements' Words, Coded, Folds and Laws, model's Reading.
--   ModelPair, model_pair: two model parts over the same propositions
--   table_code, codes_of_table, iff_code, propositions_code, join_before_code, inner_code, meet_before_code, entry_code: the codes
--   TableCoded, table_itself: a table's codes; InnerCoded: those of its inner joins
--   WithinTop, propositions_within, row_folded_within: codes are within the top's
--   joins_of, inner_of, meets-of: the joins and the meets so far, and those of all states
--   entry_of, entry-decoded: the code of an entry is that of F's entry, and is turned back into it
--   code_within, bottom_test, top-test: a code is within the top's, bottom is the word 0, and top the greatest word
use Rattle.std.specs.Prelude.{ℕ, zero, suc, ◌%◌, ◌≤◌, ◌<◌, ◌≡◌, refl, true, false, List, eqb, get_or}
use Rattle.std.proofs.Common.{sym, ap, ◌∙◌, arith, eq-eqb, eqb-true}
use Rattle.std.specs.Int.Bits.{bit_and, bit_or}
use Rattle.std.proofs.lemmas.Nat.{and_comm}
use Rattle.theory.specs.Lattice.{imp, iff}
use Rattle.theory.specs.Loop.{fold}
use Rattle.theory.specs.Part.{model_of, ModelShape}
use Rattle.theory.specs.Simulation.{proposition_part, F}
use Rattle.theory.specs.Value.{some_next}
use Rattle.theory.specs.Pairs.{is_bottom, is_top, meet_before, join_before}
use Rattle.theory.proofs.PairLaws.{meet_whole, join_whole}
use Rattle.theory.specs.TestLaws.{bool_same}
use Rattle.elements.specs.declared.Lattice.{Lattice}
use Rattle.elements.specs.Words.{code_in, negated_code_in, decode_in, ops_in, Coded}
use Rattle.elements.proofs.Coded.{code_element, meet_lt}
use Rattle.elements.specs.Folds.{CodeOf}
use Rattle.elements.proofs.Folds.{decode_in_lem, code_of, negated_of, bottom_of, meet_of_lem, join_of_lem, fold_meets, fold_joins, fold_within}
use Rattle.elements.specs.Laws.{Within, within-refl, within_antisym, and_assoc}
use Rattle.model.specs.Reading.{leaving_code}
use Rattle.entries.specs.Table.{table_of, Shaped, entry_in}
use Rattle.entries.specs.Words.{RowFolded}

-- two model parts over the same propositions
pub record ModelPair (m₁ m₂ : List ℕ) : Type 0 where
  pub first : ModelShape m₁
  pub second : ModelShape m₂
  pub same_propositions : get_or m₁ 1 0 ≡ get_or m₂ 1 0

pub model_pair : {m₁ m₂ s : List ℕ} → Shaped m₁ m₂ s → ModelPair m₁ m₂
model_pair h = record { first = h.first; second = h.second; same_propositions = h.same_propositions }

-- ---- the codes

-- that of an entry of the table s, with n₂ for N2
abbrev pub table_code : List ℕ → List ℕ → ℕ → ℕ → ℕ → ℕ
table_code w s n₂ q r = code_in w (table_of s n₂ q r)

-- that of an entry, with the N2 of the part m₂
abbrev pub codes_of_table : List ℕ → List ℕ → List ℕ → ℕ → ℕ → ℕ
codes_of_table w m₂ s = table_code w s (get_or m₂ 0 0)

-- a ↔ b
abbrev pub iff_code : List ℕ → ℕ → ℕ → ℕ
iff_code w a b = bit_and (bit_or (negated_code_in w a) (code_in w b)) (bit_or (negated_code_in w b) (code_in w a))

-- the meet over all propositions of p1 ↔ p2
abbrev pub propositions_code : List ℕ → ℕ → List ℕ → List ℕ → ℕ → ℕ → ℕ
propositions_code w top m₁ m₂ q₁ q₂ = fold bit_and top (λ p. iff_code w ((model_of m₁).label q₁ p) ((model_of m₂).label q₂ p)) (get_or m₁ 1 0)

-- the join over q2' below k of R2(q₂, q2') met with entry (q, q2') of the table of codes S; over all q2'
abbrev pub join_before_code : List ℕ → List ℕ → (ℕ → ℕ → ℕ) → ℕ → ℕ → ℕ → ℕ
join_before_code w m₂ S q₂ q k = fold bit_or 0 (λ i. bit_and (leaving_code false w m₂ q₂ i) (S q i)) k

abbrev pub inner_code : List ℕ → List ℕ → (ℕ → ℕ → ℕ) → ℕ → ℕ → ℕ
inner_code w m₂ S q₂ q = join_before_code w m₂ S q₂ q (get_or m₂ 0 0)

-- the meet over the propositions and, over q1' below k, of R1(q₁, q1') → the inner join J of q1' and q₂; over all q1', which is an entry of F
abbrev pub meet_before_code : List ℕ → ℕ → List ℕ → List ℕ → (ℕ → ℕ → ℕ) → ℕ → ℕ → ℕ → ℕ
meet_before_code w top m₁ m₂ J q₁ q₂ k = fold bit_and (propositions_code w top m₁ m₂ q₁ q₂) (λ i. bit_or (leaving_code true w m₁ q₁ i) (J i q₂)) k

abbrev pub entry_code : List ℕ → ℕ → List ℕ → List ℕ → (ℕ → ℕ → ℕ) → ℕ → ℕ → ℕ
entry_code w top m₁ m₂ J q₁ q₂ = meet_before_code w top m₁ m₂ J q₁ q₂ (get_or m₁ 0 0)

-- S has the codes of the table s
pub record TableCoded (w m₁ m₂ s : List ℕ) (S : ℕ → ℕ → ℕ) : Type 0 where
  pub at : (q r : ℕ) → q < get_or m₁ 0 0 → r < get_or m₂ 0 0 → S q r ≡ codes_of_table w m₂ s q r

-- J has at q₂ the codes of the inner joins of the table s
pub record InnerCoded (w : List ℕ) (l : Lattice) (m₁ m₂ s : List ℕ) (J : ℕ → ℕ → ℕ) (q₂ : ℕ) : Type 0 where
  pub at : (i : ℕ) → i < get_or m₁ 0 0 → CodeOf w (J i q₂) (some_next (ops_in w l) (model_of m₂) (table_of s (get_or m₂ 0 0) i) q₂)

-- the table itself
pub table_itself : (w m₁ m₂ s : List ℕ) → TableCoded w m₁ m₂ s (codes_of_table w m₂ s)
table_itself w m₁ m₂ s = record { at = λ q r l m. refl }

-- ---- words within the top's

-- the first n words of a row are within the top's
pub record WithinTop (top n : ℕ) (row : List ℕ) : Type 0 where
  pub at : (i : ℕ) → i < n → Within (get_or row i 0) top

pub propositions_within : (w : List ℕ) (top : ℕ) (m₁ m₂ : List ℕ) (q₁ q₂ : ℕ) → Within (propositions_code w top m₁ m₂ q₁ q₂) top
propositions_within w top m₁ m₂ q₁ q₂ = fold_within (within-refl top) _ (get_or m₁ 1 0)

-- so are folds that start within it
pub row_folded_within : (top k n : ℕ) {start : ℕ → ℕ} {f : ℕ → ℕ → ℕ} {row : List ℕ} → ((i : ℕ) → i < n → Within (start i) top) → RowFolded bit_and start f k n row → WithinTop top n row
row_folded_within top k n e h = record { at = λ i l. rw (h.at i l) (fold_within (e i l) _ k) }

-- a meet that starts within it is that with the meet from the top on
fold_from : {x top : ℕ} → Within x top → (f : ℕ → ℕ) (n : ℕ) → fold bit_and x f n ≡ bit_and x (fold bit_and top f n)
unfolding fold
fold_from h f zero = sym h.eq
fold_from {x} {top} h f (suc n) = ap (λ (y : ℕ). bit_and y (f n)) (fold_from h f n) ∙ and_assoc x (fold bit_and top f n) (f n)

-- ---- they are the codes of F's meets and joins

module _ {w : List ℕ} {l : Lattice} (c : Coded w l) where
  -- an element's code is within the top's
  pub code_within : (a : ℕ) → Within (code_in w a) (code_in w l.top.0)
  code_within a =
      let k = code_element c a in
      let m = c.most in
      let t = c.top_lt in
      let z : l.top.0 % 64 ≡ l.top.0 = omega arith in
      record { eq = rw (z, k.code) (c.top_is k.element k.below) }

  -- bottom is the word 0
  pub bottom_test : {x a : ℕ} → CodeOf w x a → is_bottom (ops_in w l) a ≡ eqb x 0
  bottom_test {x} h =
      rw (← h.eq, ← (bottom_of c).eq)
      (bool_same _ _ (λ t. eq-eqb _ _ (sym (eqb-true _ _ t) ∙ and_comm x 0)) (λ t. eq-eqb _ _ (and_comm x 0 ∙ sym (eqb-true _ _ t))))

  -- top is the word that all others are within
  pub top-test : {x a : ℕ} → CodeOf w x a → is_top (ops_in w l) a ≡ eqb x (code_in w l.top.0)
  top-test {x} {a} h =
      let u : Within x (code_in w l.top.0) = rw h.eq (code_within a) in
      rw (← h.eq)
      (bool_same _ _ (λ t. eq-eqb _ _ (within_antisym u (record { eq = eqb-true _ _ t }))) (λ t. eq-eqb _ _ (ap (bit_and (code_in w l.top.0)) (eqb-true _ _ t) ∙ (within-refl (code_in w l.top.0)).eq)))

module _ {w : List ℕ} {l : Lattice} (c : Coded w l) (m₁ m₂ s : List ℕ) where
  abbrev top : ℕ
  top = code_in w l.top.0

  iff_of : (q₁ q₂ p : ℕ) → CodeOf w (iff_code w ((model_of m₁).label q₁ p) ((model_of m₂).label q₂ p)) (iff (ops_in w l) ((model_of m₁).label q₁ p) ((model_of m₂).label q₂ p))
  unfolding iff imp
  iff_of q₁ q₂ p =
      let a = (model_of m₁).label q₁ p in
      let b = (model_of m₂).label q₂ p in
      let O = ops_in w l in
      meet_of_lem c {a = O.join (O.neg a) b} {b = O.join (O.neg b) a} (join_of_lem c {a = O.neg a} {b = b} (negated_of c a) (code_of c b)) (join_of_lem c {a = O.neg b} {b = a} (negated_of c b) (code_of c a))

  propositions_of : (q₁ q₂ : ℕ) → CodeOf w (propositions_code w top m₁ m₂ q₁ q₂) (proposition_part (ops_in w l) (model_of m₁) (model_of m₂) q₁ q₂)
  unfolding proposition_part
  propositions_of q₁ q₂ = fold_meets c (get_or m₁ 1 0) _ _ (code_of c l.top.0) (λ p k. iff_of q₁ q₂ p)

  module _ (q₂ : ℕ) where
    -- the join so far, and that over all states
    pub joins_of : {S : ℕ → ℕ → ℕ} → TableCoded w m₁ m₂ s S → (i k : ℕ) → i < get_or m₁ 0 0 → k ≤ get_or m₂ 0 0 → CodeOf w (join_before_code w m₂ S q₂ i k) (join_before (ops_in w l) (model_of m₂) (table_of s (get_or m₂ 0 0)) q₂ i k)
    unfolding join_before
    joins_of t i k a b = fold_joins c k _ _ (λ j m. meet_of_lem c (code_of c ((model_of m₂).transition q₂ j)) (record { eq = t.at i j a (omega arith) }))

    pub inner_of : {S : ℕ → ℕ → ℕ} → TableCoded w m₁ m₂ s S → (i : ℕ) → i < get_or m₁ 0 0 → CodeOf w (inner_code w m₂ S q₂ i) (some_next (ops_in w l) (model_of m₂) (table_of s (get_or m₂ 0 0) i) q₂)
    inner_of t i a = rw (join_whole (ops_in w l) (model_of m₂) (table_of s (get_or m₂ 0 0)) q₂ i) at (joins_of t i (get_or m₂ 0 0) a (omega arith))

  module _ (q₁ q₂ : ℕ) where
    -- the meet so far, from the inner joins J
    pub meets-of : {J : ℕ → ℕ → ℕ} → InnerCoded w l m₁ m₂ s J q₂ → (k : ℕ) → k ≤ get_or m₁ 0 0 → CodeOf w (meet_before_code w top m₁ m₂ J q₁ q₂ k) (meet_before (ops_in w l) (model_of m₁) (model_of m₂) (table_of s (get_or m₂ 0 0)) q₁ q₂ k)
    unfolding meet_before imp
    meets-of h k b =
        rw (fold_from (propositions_within w top m₁ m₂ q₁ q₂) _ k)
        (meet_of_lem c (propositions_of q₁ q₂)
        (fold_meets c k _ _ (code_of c l.top.0) (λ i m. join_of_lem c (negated_of c ((model_of m₁).transition q₁ i)) (h.at i (omega arith)))))

    pub entry_of : {J : ℕ → ℕ → ℕ} → InnerCoded w l m₁ m₂ s J q₂ → CodeOf w (entry_code w top m₁ m₂ J q₁ q₂) (entry_in w l m₁ m₂ s q₁ q₂)
    entry_of h = rw (meet_whole (ops_in w l) (model_of m₁) (model_of m₂) (table_of s (get_or m₂ 0 0)) q₁ q₂) at (meets-of h (get_or m₁ 0 0) (omega arith))

    pub entry-decoded : {J : ℕ → ℕ → ℕ} → InnerCoded w l m₁ m₂ s J q₂ → decode_in w (entry_code w top m₁ m₂ J q₁ q₂) ≡ entry_in w l m₁ m₂ s q₁ q₂
    unfolding F
    entry-decoded h = decode_in_lem c (entry_of h) (meet_lt c (proposition_part (ops_in w l) (model_of m₁) (model_of m₂) q₁ q₂) _)
