-- Finite meets and joins by codes. Rests on theory's Lattice and Loop, Words, Coded, Laws.
-- The definitions are in specs/Folds.
--   code_of, negated_of, bottom_of: the codes of an element, of its complement, of the bottom; meet_of_lem, join_of_lem: & and | of two codes
--   big_join_lt, big_meet_lt: the results are elements
--   fold_meets, fold_joins: a fold of codes is the code of the finite meet or join
--   fold_within: what is met with a word stays within whatever the word is within; top_same: a word within the top's stays as it is when met with a word that the top's is within
--   or_within, or_member: a join of words within another is within it, and each word is within their join
--   or_stays, and_stays: joins that have reached the top's word, and meets that have reached 0, stay there
use Prim.Native.Nat.{ℕ, zero, suc, ◌+◌, ◌-◌, ◌%◌, ◌≤◌, ◌<◌}
use Rattle.std.specs.Prelude.{◌≡◌, List, get_or}
use Rattle.std.proofs.Math.Path.{refl, ap}
use Rattle.std.proofs.Common.{sym, ap₂, ◌∙◌, add-zero, add-suc, le_refl, not-suc-le-zero, arith}
use Rattle.std.specs.Int.Bits.{bit_and, bit_or}
use Rattle.theory.specs.Lattice.{big_meet, big_join}
use Rattle.theory.specs.Loop.{fold}
use Rattle.theory.specs.TestLaws.{below_suc}
use Rattle.elements.specs.declared.Lattice.{Lattice}
use Rattle.elements.specs.Words.{code_in, negated_code_in, decode_in, ops_in, Coded}
use Rattle.elements.specs.Laws.{Within, within-refl, within_trans, within_antisym, and_left, or_left, or_right, or_lub}
use Rattle.elements.proofs.Coded.{guess_is, meet_lt, join_lt, meet_code_lem, join_code_lem, complement_code}
use Rattle.elements.specs.Folds.{CodeOf}

module _ {w : List ℕ} {l : Lattice} (c : Coded w l) where
  -- an element is found by its word
  pub decode_in_lem : {x e : ℕ} → CodeOf w x e → e < l.size → decode_in w x ≡ e
  decode_in_lem {x} {e} h k = sym (guess_is c e x k (sym h.eq))

  pub meet_of_lem : {x y a b : ℕ} → CodeOf w x a → CodeOf w y b → CodeOf w (bit_and x y) ((ops_in w l).meet a b)
  meet_of_lem {a = a} {b = b} h k = record { eq = ap₂ bit_and h.eq k.eq ∙ sym (meet_code_lem c a b) }

  pub join_of_lem : {x y a b : ℕ} → CodeOf w x a → CodeOf w y b → CodeOf w (bit_or x y) ((ops_in w l).join a b)
  join_of_lem {a = a} {b = b} h k = record { eq = ap₂ bit_or h.eq k.eq ∙ sym (join_code_lem c a b) }

  pub big_join_lt : (n : ℕ) (f : ℕ → ℕ) → big_join (ops_in w l) n f < l.size
  unfolding big_join
  big_join_lt zero f = c.bottom_lt
  big_join_lt (suc n) f = join_lt c (big_join (ops_in w l) n f) (f n)

  pub big_meet_lt : (n : ℕ) (f : ℕ → ℕ) → big_meet (ops_in w l) n f < l.size
  unfolding big_meet
  big_meet_lt zero f = c.top_lt
  big_meet_lt (suc n) f = meet_lt c (big_meet (ops_in w l) n f) (f n)

  -- an element's own code, and its complement's
  pub code_of : (a : ℕ) → CodeOf w (code_in w a) a
  code_of a = record { eq = refl }

  pub negated_of : (a : ℕ) → CodeOf w (negated_code_in w a) ((ops_in w l).neg a)
  negated_of a = record { eq = sym (complement_code c a) }

  pub bottom_of : CodeOf w 0 l.bottom.0
  bottom_of =
      let m = c.most in
      let b = c.bottom_lt in
      let z : l.bottom.0 % 64 ≡ l.bottom.0 = omega arith in
      record { eq = sym (ap (λ (i : ℕ). get_or w i 0) z ∙ c.bottom_is) }

  -- ---- a fold of codes by & and by |

  pub fold_meets : (n : ℕ) (f u : ℕ → ℕ) {x : ℕ} → CodeOf w x l.top.0 → ((i : ℕ) → i < n → CodeOf w (f i) (u i)) → CodeOf w (fold bit_and x f n) (big_meet (ops_in w l) n u)
  unfolding fold big_meet
  fold_meets zero f u z h = z
  fold_meets (suc n) f u z h = meet_of_lem {a = big_meet (ops_in w l) n u} {b = u n} (fold_meets n f u z (λ i m. h i (omega arith))) (h n (le_refl _))

  pub fold_joins : (n : ℕ) (f u : ℕ → ℕ) → ((i : ℕ) → i < n → CodeOf w (f i) (u i)) → CodeOf w (fold bit_or 0 f n) (big_join (ops_in w l) n u)
  unfolding fold big_join
  fold_joins zero f u h = bottom_of
  fold_joins (suc n) f u h = join_of_lem {a = big_join (ops_in w l) n u} {b = u n} (fold_joins n f u (λ i m. h i (omega arith))) (h n (le_refl _))

-- ---- words within another

pub fold_within : {x top : ℕ} → Within x top → (f : ℕ → ℕ) (n : ℕ) → Within (fold bit_and x f n) top
unfolding fold
fold_within h f zero = h
fold_within {x} h f (suc n) = within_trans (and_left (fold bit_and x f n) (f n)) (fold_within h f n)

pub top_same : {x top : ℕ} → Within x top → (y : ℕ) → x ≡ bit_and x (bit_or top y)
top_same {top = top} h y = sym (within_trans h (or_left top y)).eq

-- ---- joins that have reached the top's word, and meets that have reached 0, stay there

module _ (f : ℕ → ℕ) where
  pub or_within : {top : ℕ} (n : ℕ) → ((i : ℕ) → i < n → Within (f i) top) → Within (fold bit_or 0 f n) top
  unfolding fold
  or_within zero h = record { eq = refl }
  or_within (suc n) h = or_lub (or_within n (λ i l. h i (omega arith))) (h n (le_refl _))

  or_on : (a d : ℕ) → Within (fold bit_or 0 f a) (fold bit_or 0 f (a + d))
  unfolding fold
  or_on a zero = rw (add-zero a) (within-refl (fold bit_or 0 f a))
  or_on a (suc d) = rw (add-suc a d) (within_trans (or_on a d) (or_left (fold bit_or 0 f (a + d)) _))

  -- a value is within the join of all
  pub or_member : (n i : ℕ) → i < n → Within (f i) (fold bit_or 0 f n)
  unfolding fold
  or_member zero i l = absurd (not-suc-le-zero l)
  or_member (suc n) i l = below_suc {P = λ j. Within (f j) (bit_or (fold bit_or 0 f n) (f n))} (λ j k. within_trans (or_member n j k) (or_left _ _)) (or_right (fold bit_or 0 f n) (f n)) i l

  pub or_stays : {top : ℕ} (a b : ℕ) → a ≤ b → ((i : ℕ) → i < b → Within (f i) top) → Within top (fold bit_or 0 f a) → fold bit_or 0 f b ≡ top
  or_stays a b l h e = let z : a + (b - a) ≡ b = omega arith in within_antisym (or_within b h) (within_trans e (rw z at (or_on a (b - a))))

  and_on : (x a d : ℕ) → fold bit_and x f a ≡ 0 → fold bit_and x f (a + d) ≡ 0
  unfolding fold
  and_on x a zero e = ap (fold bit_and x f) (add-zero a) ∙ e
  and_on x a (suc d) e = ap (fold bit_and x f) (add-suc a d) ∙ ap (λ (y : ℕ). bit_and y (f (a + d))) (and_on x a d e)

  pub and_stays : (x a b : ℕ) → a ≤ b → fold bit_and x f a ≡ 0 → fold bit_and x f b ≡ 0
  and_stays x a b l e = let z : a + (b - a) ≡ b = omega arith in rw z at (and_on x a (b - a) e)
