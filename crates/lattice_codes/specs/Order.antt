-- The test of refusal 5 by words. Rests on theory's Part and TestLaws, lattice_order's Tests and Ordered, elements' Bits and Laws, Tests.
--   down_at: a bit of the word of an element
--   by-words, word_in, word_out, word-distinct, ordered-sound: what the test says, with any words; ordered_complete: the other way round
--   down-within: words in order; down-distinct, down_lt: different elements have different words, one at or below another has the lesser
--   ordered_exactly: the test on the words of the elements at or below each is that of the order
use Rattle.std.specs.Prelude.{ℕ, ◌^◌, ◌<◌, ◌≡◌, refl, Bool, true, false, eqb}
use Rattle.std.proofs.Math.Path.{sym}
use Rattle.std.proofs.Common.{◌∙◌, arith}
use borrow.Author.Tests.{eqb-true, eq-eqb}
use Rattle.std.specs.Int.Bits.{bit_and}
use Rattle.std.proofs.lemmas.Nat.{and_le_r}
use Rattle.theory.specs.Part.{LatticePart}
use Rattle.theory.specs.TestLaws.{bool_same, and_l, and_r, and_in, ⇒-elim, ⇒-in}
use Rattle.lattice_order.specs.Tests.{partial_order}
use Rattle.lattice_order.specs.Searched.{all2_at, all2_in}
use Rattle.lattice_order.specs.Ordered.{Ordered, ordered_in, ordered_out}
use Rattle.elements.specs.Bits.{bits_same, bits_within_in, bits_within_out, bits_at}
use Rattle.elements.specs.Laws.{Within, within-refl, within_trans, within_antisym}
use Rattle.elements.specs.Words.{within}
use Rattle.lattice_codes.specs.Tests.{down_of, same, ordered_by, pair_ordered, ordered}

same_in : (a b : Bool) → a ≡ b → same a b ≡ true
same_in true b e = sym e
same_in false true e = e
same_in false false e = refl

same_out : (a b : Bool) → same a b ≡ true → a ≡ b
same_out true b t = sym t
same_out false true t = t
same_out false false t = refl

module _ (P : LatticePart) where
  -- bit b of the word of a
  pub down_at : (a b : ℕ) → b < P.size → within (2 ^ b) (down_of P a) ≡ P.order b a
  down_at a b l = bits_at P.size (λ i. P.order i a) b l

  pub within_in : (a b : ℕ) → ((i : ℕ) → i < P.size → P.order i a ≡ true → P.order i b ≡ true) → within (down_of P a) (down_of P b) ≡ true
  within_in a b h = eq-eqb _ _ (bits_within_in P.size (λ i. P.order i a) (λ i. P.order i b) h)

  pub within_out : (a b : ℕ) → within (down_of P a) (down_of P b) ≡ true → (i : ℕ) → i < P.size → P.order i a ≡ true → P.order i b ≡ true
  within_out a b t = bits_within_out P.size (λ i. P.order i a) (λ i. P.order i b) (eqb-true _ _ t)

  -- ---- from the test, with words g

  module _ (g : ℕ → ℕ) (t : ordered P.size (down_of P) g ≡ true) where
    pair : (a b : ℕ) → a < P.size → b < P.size → pair_ordered (down_of P) g a b ≡ true
    unfolding ordered
    pair a b l m = all2_at P.size (pair_ordered (down_of P) g) t a b l m

    -- the order is that of the words
    pub by-words : (a b : ℕ) → a < P.size → b < P.size → P.order a b ≡ within (g a) (g b)
    unfolding pair_ordered ordered_by
    by-words a b l m = sym (down_at b a l) ∙ same_out _ _ (and_l (same (within (2 ^ a) (down_of P b)) (within (g a) (g b))) _ (pair b a m l))

    pub word_in : {a b : ℕ} → a < P.size → b < P.size → P.order a b ≡ true → Within (g a) (g b)
    word_in {a} {b} l m h = record { eq = eqb-true _ _ (sym (by-words a b l m) ∙ h) }

    pub word_out : {a b : ℕ} → a < P.size → b < P.size → Within (g a) (g b) → P.order a b ≡ true
    word_out {a} {b} l m h = by-words a b l m ∙ eq-eqb _ _ h.eq

    pub word-distinct : (a b : ℕ) → a < P.size → b < P.size → g a ≡ g b → a ≡ b
    unfolding pair_ordered ordered_by
    word-distinct a b l m e = eqb-true a b (⇒-elim (eqb (g a) (g b)) _ (and_r (same (within (2 ^ b) (down_of P a)) (within (g b) (g a))) _ (pair a b l m)) (eq-eqb _ _ e))

    pub ordered-sound : Ordered P
    ordered-sound =
        record {
          rfl = λ a l. word_out l l (within-refl (g a));
          anti = record { same = λ a b l m p q. word-distinct a b l m (within_antisym (word_in l m p) (word_in m l q)) };
          trans = λ a b c l m k p q. word_out l k (within_trans (word_in l m p) (word_in m k q));
        }

  -- to the test
  pub ordered_complete : (g : ℕ → ℕ) → ((a b : ℕ) → a < P.size → b < P.size → P.order a b ≡ within (g a) (g b)) → ((a b : ℕ) → a < P.size → b < P.size → g a ≡ g b → a ≡ b) → ordered P.size (down_of P) g ≡ true
  unfolding ordered pair_ordered ordered_by
  ordered_complete g h d =
      all2_in P.size (pair_ordered (down_of P) g) (λ a b l m.
      and_in _ _ (same_in _ _ (down_at a b m ∙ h b a m l)) (⇒-in _ _ (λ t. eq-eqb a b (d a b l m (eqb-true _ _ t)))))

  -- ---- the words of elements at or below one

  module _ (o : Ordered P) where
    pub down-within : (a b : ℕ) → a < P.size → b < P.size → P.order a b ≡ within (down_of P a) (down_of P b)
    down-within a b l m =
        bool_same _ _ (λ t. within_in a b (λ i k s. o.trans i a b k l m s t)) (λ t. within_out a b t a l (o.rfl a l))

    pub down-distinct : (a b : ℕ) → a < P.size → b < P.size → down_of P a ≡ down_of P b → a ≡ b
    down-distinct a b l m e =
        let f = bits_same P.size (λ i. P.order i a) (λ i. P.order i b) e in
        o.anti.same a b l m (sym (f a l) ∙ o.rfl a l) (f b m ∙ o.rfl b m)

    -- an element at or below another, and not the same, has a lesser word
    pub down_lt : (a b : ℕ) → a < P.size → b < P.size → P.order a b ≡ true → ¬ (a ≡ b) → down_of P a < down_of P b
    down_lt a b l m t u =
        let x : bit_and (down_of P a) (down_of P b) ≡ down_of P a = eqb-true _ _ (sym (down-within a b l m) ∙ t) in
        let y : ¬ (down_of P a ≡ down_of P b) = λ e. u (down-distinct a b l m e) in
        omega (arith, and_le_r (down_of P a) (down_of P b))

  pub ordered_exactly : ordered P.size (down_of P) (down_of P) ≡ partial_order P.size P.order
  ordered_exactly = bool_same _ _ (λ t. ordered_in P (ordered-sound (down_of P) t)) (λ t. let o = ordered_out P t in ordered_complete (down_of P) (down-within o) (down-distinct o))
