-- What the check tests of the words of an order, and the words. Rests on theory's Part and Test, lattice_order's Tests, elements' Bits and Words.
--   any_below: a test is passed at some number; any_in, any_out, any_cong
--   down_of: the word of the elements at or below one; all_of: that of all elements
--   FoundAt, found_here, found_none: where a word stands
--   ordered: the order is that of words; closed: each & or each | of two words is a word; pair_ordered, pair_closed: the same of two elements
--   irreducible, irreducibles, code_of: the elements that are no joins, their word, and the code of an element
--   lattice_test: what an accepted part passes; meets_and_joins_test: refusal 6 does not apply
use Rattle.std.specs.Prelude.{ℕ, ◌-◌, ◌^◌, ◌<◌, ◌≡◌, refl, Bool, cond, not, ◌&&◌, List, ltb, eqb, get_or, Option, Some, None, is_some}
use Rattle.std.proofs.Math.Path.{sym, ap}
use Rattle.std.proofs.Common.{ap₂, ◌∙◌, arith}
use Rattle.std.specs.Bool.{beq}
use Rattle.std.proofs.Math.Bool.{true, false}
use borrow.Author.Tests.{ltb-true, lt-ltb, eq-eqb, ne_eqb}
use Rattle.std.specs.Int.Bits.{bit_and, bit_or}
use Rattle.theory.specs.Part.{LatticePart}
use Rattle.theory.specs.Test.{all_below, first_below, ◌⇒◌}
use Rattle.theory.specs.TestLaws.{first_is, not_passed, false_true, all_in, all_cong}
use Rattle.lattice_order.specs.Tests.{all2}
use Rattle.lattice_order.specs.Searched.{first_some}
use Rattle.lattice_order.specs.Agree.{first_cong}
use Rattle.elements.specs.Bits.{bits}
use Rattle.elements.specs.Words.{within}

-- ---- some number below n passes

unfoldable pub any_below : ℕ → (ℕ → Bool) → Bool
any_below n f = ltb (first_below n f) n

pub any_in : (n : ℕ) (f : ℕ → Bool) (i : ℕ) → i < n → f i ≡ true → any_below n f ≡ true
unfolding any_below
any_in n f i l t = lt-ltb _ _ (first_some n f i l t)

-- a number that passes
pub record Passes (n : ℕ) (f : ℕ → Bool) : Type 0 where
  pub number : ℕ
  pub below : number < n
  pub passed : f number ≡ true

pub any_out : (n : ℕ) (f : ℕ → Bool) → any_below n f ≡ true → Passes n f
unfolding any_below
any_out n f t = let l = ltb-true _ _ t in record { number = first_below n f; below = l; passed = (first_is n f).passes l }

pub any_cong : (n : ℕ) (f g : ℕ → Bool) → ((i : ℕ) → i < n → f i ≡ g i) → any_below n f ≡ any_below n g
unfolding any_below
any_cong n f g h = ap (λ (r : ℕ). ltb r n) (first_cong n f g h)

-- ---- words in a list

abbrev pub words_in : List ℕ → ℕ → ℕ
words_in w a = get_or w a 0

-- those within the mask
abbrev pub codes_by : List ℕ → ℕ → ℕ → ℕ
codes_by w mask a = bit_and (get_or w a 0) mask

-- ---- the words of an order

-- the elements at or below a, and all elements
abbrev pub down_of : LatticePart → ℕ → ℕ
down_of P a = bits P.size (λ b. P.order b a)

abbrev pub all_of : ℕ → ℕ
all_of n = bits n (λ a. true)

-- ---- tests of words f 0, .., f (n - 1)

-- two truth values are the same
abbrev pub same : Bool → Bool → Bool
same true b = b
same false b = cond b false true

-- x has bit b exactly where z is within y, and y and z are the same only for a and b the same
unfoldable pub ordered_by : ℕ → ℕ → ℕ → ℕ → ℕ → Bool
ordered_by x y z a b = same (within (2 ^ b) x) (within z y) && (eqb y z ⇒ eqb a b)

-- f a has bit b exactly where g b is within g a, and g a and g b are the same only for a and b the same
unfoldable pub pair_ordered : (ℕ → ℕ) → (ℕ → ℕ) → ℕ → ℕ → Bool
pair_ordered f g a b = ordered_by (f a) (g a) (g b) a b

-- as the code compares them
unlike : (p q : Bool) → not (beq p q) ≡ true → same p q ≡ false
unlike true true h = sym h
unlike true false h = refl
unlike false true h = refl
unlike false false h = sym h

alike : (p q : Bool) → not (beq p q) ≡ false → same p q ≡ true
alike true true h = refl
alike true false h = sym h
alike false true h = sym h
alike false false h = refl

-- the test of a pair, case by case, k being the bit
module _ (x y z a b k : ℕ) (e : k ≡ 2 ^ b) where
  by_bit : same (within (2 ^ b) x) (within z y) ≡ same (within k x) (within z y)
  by_bit = ap (λ (j : ℕ). same (within j x) (within z y)) (sym e)

  pub pair_unlike : not (beq (within k x) (within z y)) ≡ true → false ≡ ordered_by x y z a b
  unfolding ordered_by
  pair_unlike h = rw (by_bit ∙ unlike (within k x) (within z y) h)

  pub pair_same : not (beq (within k x) (within z y)) ≡ false → y ≡ z → eqb a b ≡ ordered_by x y z a b
  unfolding ordered_by
  pair_same h g = rw (by_bit ∙ alike (within k x) (within z y) h, eq-eqb y z g)

  pub pair_apart : not (beq (within k x) (within z y)) ≡ false → (y ≡ z → ⊥) → true ≡ ordered_by x y z a b
  unfolding ordered_by
  pair_apart h g = rw (by_bit ∙ alike (within k x) (within z y) h, ne_eqb y z g)

unfoldable pub ordered : ℕ → (ℕ → ℕ) → (ℕ → ℕ) → Bool
ordered n f g = all2 n (pair_ordered f g)

-- x is one of the words
unfoldable pub is_word : ℕ → (ℕ → ℕ) → ℕ → Bool
is_word n f x = any_below n (λ c. eqb (f c) x)

-- r is where x stands among the first n words of w, or it stands nowhere
pub record FoundAt (w : List ℕ) (n x : ℕ) (r : Option ℕ) : Type 0 where
  pub hit : (a : ℕ) → r ≡ Some a → (a < n) × (get_or w a 0 ≡ x)
  pub word : is_word n (words_in w) x ≡ is_some r

pub found_here : (w : List ℕ) (n x a : ℕ) → a < n → get_or w a 0 ≡ x → FoundAt w n x (Some a)
unfolding is_word
found_here w n x a l e =
    record {
      hit = λ b s. let q : a ≡ b = cc in (rw (← q) l, rw (← q) e);
      word = any_in n (λ c. eqb (get_or w c 0) x) a l (eq-eqb _ _ e);
    }

pub found_none : (w : List ℕ) (n x : ℕ) → ((c : ℕ) → c < n → eqb (get_or w c 0) x ≡ false) → FoundAt w n x None
unfolding is_word
found_none w n x h =
    record {
      hit = λ b s. absurd (let z : ◌≡◌ {A = ℕ} 0 1 = cc in omega arith);
      word = not_passed _ (λ t. let v = any_out n (λ c. eqb (get_or w c 0) x) t in false_true (h v.number v.below) v.passed);
    }

-- | where `joins`, else &
abbrev pub both : Bool → ℕ → ℕ → ℕ
both joins x y = cond joins (bit_or x y) (bit_and x y)

-- for every a that has its bit in the mask, and every b, the & or the | of the two words is one of the words
unfoldable pub pair_closed : ℕ → (ℕ → ℕ) → ℕ → Bool → ℕ → ℕ → Bool
pair_closed n f mask joins a b = within (2 ^ a) mask ⇒ is_word n f (both joins (f a) (f b))

-- the test of a pair, case by case
module _ (w : List ℕ) (n : ℕ) (joins : Bool) (a b : ℕ) where
  pub both_found : (z : ℕ) (r : Option ℕ) → z ≡ both joins (get_or w a 0) (get_or w b 0) → FoundAt w n z r → is_some r ≡ is_word n (words_in w) (both joins (get_or w a 0) (get_or w b 0))
  both_found z r d f = sym f.word ∙ ap (is_word n (words_in w)) d

  pub both-here : (z c : ℕ) → z ≡ both joins (get_or w a 0) (get_or w b 0) → c < n → z ≡ get_or w c 0 → true ≡ is_word n (words_in w) (both joins (get_or w a 0) (get_or w b 0))
  both-here z c d l f = both_found z (Some c) d (found_here w n z c l (sym f))

-- the tests of a row: k is the bit of a
module _ (f : ℕ → ℕ) (n mask : ℕ) (joins : Bool) (a k : ℕ) (e : k ≡ 2 ^ a) where
  pub row_skip : (bit_and k mask ≡ k → ⊥) → true ≡ all_below n (pair_closed n f mask joins a)
  unfolding pair_closed
  row_skip h =
      let z : within (2 ^ a) mask ≡ false = ap (λ (j : ℕ). within j mask) (sym e) ∙ ne_eqb _ _ h in
      sym (all_in n _ (λ b l. rw z))

  pub row_tested : bit_and k mask ≡ k → all_below n (λ b. is_word n f (both joins (f a) (f b))) ≡ all_below n (pair_closed n f mask joins a)
  unfolding pair_closed
  row_tested h =
      let z : within (2 ^ a) mask ≡ true = ap (λ (j : ℕ). within j mask) (sym e) ∙ eq-eqb _ _ h in
      all_cong n _ _ (λ b l. rw z)

unfoldable pub closed : ℕ → (ℕ → ℕ) → ℕ → Bool → Bool
closed n f mask joins = all2 n (pair_closed n f mask joins)

-- ---- codes

-- the others at or below a are those at or below one element
abbrev pub irreducible : ℕ → (ℕ → ℕ) → ℕ → Bool
irreducible n f a = is_word n f (f a - 2 ^ a)

abbrev pub irreducibles : ℕ → (ℕ → ℕ) → ℕ
irreducibles n f = bits n (irreducible n f)

-- the code of an element: the irreducible elements at or below it
abbrev pub code_of : LatticePart → ℕ → ℕ
code_of P a = bit_and (down_of P a) (irreducibles P.size (down_of P))

-- ---- the tests of a part

-- what a distributive lattice passes: the order is that of the codes, the | of a code and an irreducible element's code is a code, and so is 0
abbrev pub lattice_test : LatticePart → Bool
lattice_test P =
    ordered P.size (down_of P) (code_of P)
    && closed P.size (code_of P) (irreducibles P.size (down_of P)) true
    && is_word P.size (code_of P) 0

-- where it fails: a partial order, and in it all meets and a top
abbrev pub meets_and_joins_test : LatticePart → Bool
meets_and_joins_test P = closed P.size (down_of P) (all_of P.size) false && is_word P.size (down_of P) (all_of P.size)

-- the test of an irreducible element, x being its word without its bit
pub irreducible_found : (w : List ℕ) (n a k x y : ℕ) {r : Option ℕ} → x ≡ get_or w a 0 → k ≡ 2 ^ a → y ≡ x - k → FoundAt w n y r → is_some r ≡ irreducible n (words_in w) a
irreducible_found w n a k x y d e g f = sym f.word ∙ ap (is_word n (words_in w)) (g ∙ ap₂ ◌-◌ d e)
