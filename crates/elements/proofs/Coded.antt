-- What the words of a lattice say of its operations, for every number. Rests on theory's Part and TestLaws, Words.
--   code_element, negated_element: the words are codes of elements; both_meet, both-join: & and | of two codes are codes
--   decode_code, decode_is: an element is found by its code
--   meet_lt, join_lt, complement_lt: the results are elements; meet_code_lem, join_code_lem, complement_code: their codes
--   guess_is: an element that has the code is the one that is found
--   first_some, first_none: which number `find` finds among the first 64
use Rattle.std.specs.Prelude.{ℕ, ◌%◌, ◌<◌, ◌≡◌, Bool, List, eqb, length, get_or}
use Rattle.std.specs.List.{range_with_len, AllWithin, HoldsAt}
use Rattle.std.proofs.lemmas.List.FromFn.{length-range_with_len, get_or-range_with_len}
use Rattle.std.proofs.Math.Path.{refl}
use Rattle.std.proofs.Common.{sym, ap, ap₂, ◌∙◌, le_refl, zero-add, arith}
use Rattle.std.proofs.Math.Bool.{true, false, cond}
use borrow.Author.Tests.{eq-eqb, ne_eqb, ltb-true}
use Rattle.std.specs.Int.Bits.{bit_and, bit_or}
use Rattle.std.proofs.Math.Dec.{ltb}
use Rattle.theory.specs.Part.{element}
use Rattle.theory.specs.TestLaws.{first_unique}
use Rattle.elements.specs.declared.Lattice.{Lattice}
use Rattle.elements.specs.Words.{code_in, negated_code_in, decode_in, meet_in, join_in, complement_in, IsCode, Coded}

module _ {w : List ℕ} {l : Lattice} (c : Coded w l) where
  element_lt : (a : ℕ) → element l.size a < l.size
  unfolding element
  element_lt a = go (ltb (a % 64) l.size) refl
    where
      go : (t : Bool) → ltb (a % 64) l.size ≡ t → cond t (a % 64) 0 < l.size
      go true e = ltb-true _ _ e
      go false e = c.some

  pub code_element : (a : ℕ) → IsCode w l.size (code_in w a)
  code_element a = record { element = element l.size (a % 64); below = element_lt (a % 64); code = c.padded (a % 64) (omega arith) }

  pub negated_element : (a : ℕ) → IsCode w l.size (negated_code_in w a)
  negated_element a = c.negated (a % 64) (omega arith)

  -- an element that has the code x is the first number that has it
  pub decode_is : (a x : ℕ) → a < l.size → get_or w a 0 ≡ x → decode_in w x ≡ a
  decode_is a x h e =
      let m = c.most in
      sym (first_unique 64 (λ b. eqb (get_or w b 0) x) a (record {
        most = omega arith;
        passes = λ k. eq-eqb _ _ e;
        earlier = λ b k. ne_eqb _ _ (λ z. let q : b ≡ a = c.distinct b a (omega arith) h (z ∙ sym e) in omega arith);
      }))

  pub decode_code : {x : ℕ} (k : IsCode w l.size x) → decode_in w x ≡ k.element
  decode_code k = decode_is k.element _ k.below (sym k.code)

  module _ {x : ℕ} (k : IsCode w l.size x) where
    decode-lt : decode_in w x < l.size
    decode-lt = rw (decode_code k) k.below

    decode-back : code_in w (decode_in w x) ≡ x
    decode-back =
        let m = c.most in
        let b = k.below in
        let e : k.element % 64 ≡ k.element = omega arith in
        ap (code_in w) (decode_code k) ∙ ap (λ (i : ℕ). get_or w i 0) e ∙ sym k.code

  -- & and | of two words are codes
  pub both_meet : {x y : ℕ} → IsCode w l.size x → IsCode w l.size y → IsCode w l.size (bit_and x y)
  both_meet {x} {y} u v =
      let k = c.meets u.element v.element u.below v.below in
      record { element = k.element; below = k.below; code = ap₂ bit_and u.code v.code ∙ k.code }

  pub both-join : {x y : ℕ} → IsCode w l.size x → IsCode w l.size y → IsCode w l.size (bit_or x y)
  both-join {x} {y} u v =
      let k = c.joins u.element v.element u.below v.below in
      record { element = k.element; below = k.below; code = ap₂ bit_or u.code v.code ∙ k.code }

  pub meet_lt : (a b : ℕ) → meet_in w a b < l.size
  meet_lt a b = decode-lt (both_meet (code_element a) (code_element b))

  pub join_lt : (a b : ℕ) → join_in w a b < l.size
  join_lt a b = decode-lt (both-join (code_element a) (code_element b))

  pub complement_lt : (a : ℕ) → complement_in w a < l.size
  complement_lt a = decode-lt (negated_element a)

  pub meet_code_lem : (a b : ℕ) → code_in w (meet_in w a b) ≡ bit_and (code_in w a) (code_in w b)
  meet_code_lem a b = decode-back (both_meet (code_element a) (code_element b))

  pub join_code_lem : (a b : ℕ) → code_in w (join_in w a b) ≡ bit_or (code_in w a) (code_in w b)
  join_code_lem a b = decode-back (both-join (code_element a) (code_element b))

  pub complement_code : (a : ℕ) → code_in w (complement_in w a) ≡ negated_code_in w a
  complement_code a = decode-back (negated_element a)

  -- an element as a number below n: its word is found at it
  pub guess_is : (a x : ℕ) → a < l.size → code_in w a ≡ x → a ≡ decode_in w x
  guess_is a x h e =
      let m = c.most in
      let z : a % 64 ≡ a = omega arith in
      sym (decode_is a x h (ap (λ (i : ℕ). get_or w i 0) (sym z) ∙ e))

-- ---- which number `find` finds among the first 64

number_at : (i : ℕ) → i < 64 → get_or (range_with_len 0 64) i 0 ≡ i
number_at i l = get_or-range_with_len 0 64 i 0 l ∙ zero-add i

pub first_some : (w : List ℕ) (x a : ℕ) → (get_or w a 0 ≡ x) × (i : ℕ) × (i < length (range_with_len 0 64)) × HoldsAt (λ b. b ≡ a) (range_with_len 0 64) i × AllWithin (λ b. get_or w b 0 ≡ x → ⊥) (range_with_len 0 64) 0 i → a ≡ decode_in w x
first_some w x a h =
    let l : h.1 < 64 = rw length-range_with_len at h.2 in
    let e : h.1 ≡ a = sym (number_at h.1 l) ∙ h.3 0 in
    first_unique 64 _ _ (record {
      most = omega (arith, l, e);
      passes = λ k. eq-eqb _ _ h.0;
      earlier = λ i k. let m : i < h.1 = omega (arith, k, e) in ne_eqb _ _ (λ q. h.4 i 0 (omega arith) m (ap (λ (j : ℕ). get_or w j 0) (number_at i (omega (arith, m, l))) ∙ q));
    })

pub first_none : (w : List ℕ) (x : ℕ) → AllWithin (λ b. get_or w b 0 ≡ x → ⊥) (range_with_len 0 64) 0 (length (range_with_len 0 64)) → 64 ≡ decode_in w x
first_none w x h =
    first_unique 64 _ _ (record {
      most = le_refl _;
      passes = λ k. absurd (omega arith);
      earlier = λ i k. ne_eqb _ _ (λ q. (rw length-range_with_len at h) i 0 (omega arith) k (ap (λ (j : ℕ). get_or w j 0) (number_at i k) ∙ q));
    })
