-- The words of a lattice as the code fills them, and the rules of its complement on them. Rests on theory's Part and Lists, lattice_order's Ordered,
-- lattice's Reading, elements' Words, Tests, Accepting, CodesOf, Answer.
--   words_by: what belongs at each of the 128 places; held_from: filled so, they hold the lattice
--   involutive, antitone_pair, antitone: the rules of the complement, as the code tests them
--   LatticeWords: a distributive lattice, its codes and the word of its irreducible elements
--   top_some, bottom_some: the searches for the top and the bottom find them
--   answered_refused, answered-involutive, answered-antitone, answered-accepted: the answers
use Rattle.std.specs.Prelude.{ℕ, ◌+◌, ◌≤◌, ◌<◌, ◌≡◌, refl, Bool, true, false, cond, ◌&&◌, List, ltb, eqb, get_or, Option, Some, Ok, Err, IsSome}
use Rattle.std.proofs.Common.{sym, ap, ◌∙◌, arith, lt-ltb, le-ltb}
use Rattle.theory.specs.Lists.{Filled}
use Rattle.theory.specs.Part.{LatticePart, top_of, bot_of, element}
use Rattle.theory.specs.Test.{all_below, ◌⇒◌}
use Rattle.theory.specs.TestLaws.{and_in, and_false}
use Rattle.elements.specs.declared.Lattice.{Lattice}
use Rattle.refusal.specs.declared.Refusal.{Refusal}
use Rattle.refusal.specs.declared.Refusal.TheVariants.{BadComplement}
use Rattle.lattice_order.specs.Tests.{all2, complement_rules}
use Rattle.lattice_order.specs.Searched.{element_lt, element_cong}
use Rattle.lattice_order.specs.Ordered.{Formed}
use Rattle.lattice.specs.Reading.{LatticeReading, refused, accepted, require, part_reading}
use Rattle.lattice.specs.Answer.{top_and_bottom}
use Rattle.elements.specs.Words.{within}
use Rattle.lattice_codes.specs.Tests.{words_in, down_of, is_word, irreducibles, code_of, FoundAt}
use Rattle.lattice_codes.specs.Cong.{is_word_cong}
use Rattle.lattice_codes.specs.Accepting.{DistributiveLattice}
use Rattle.lattice_codes.specs.Held.{CodesOf}
use Rattle.lattice_codes.proofs.Held.{complement-exactly, top-is_word, top_found, bottom_is_word, bottom_found}
use Rattle.lattice.specs.Answer.{Answered}
use Rattle.lattice.specs.ByWords.{reading_lattice}

-- ---- what belongs at place k

unfoldable pub words_by : LatticePart → List ℕ → ℕ → ℕ
words_by P codes k = get_or codes (cond (ltb k 64) (element P.size k) (P.complement (element P.size k))) 0

pub words_low : (P : LatticePart) (codes : List ℕ) (k : ℕ) → k < 64 → get_or codes (element P.size k) 0 ≡ words_by P codes k
unfolding words_by
words_low P codes k l = rw (lt-ltb k 64 l)

pub words_high : (P : LatticePart) (codes : List ℕ) (k : ℕ) → 64 ≤ k → get_or codes (P.complement (element P.size k)) 0 ≡ words_by P codes k
unfolding words_by
words_high P codes k l = rw (le-ltb k 64 l)

pub held_from : (P : LatticePart) {codes w : List ℕ} → Formed P → Filled (code_of P) P.size codes → Filled (words_by P codes) 128 w → CodesOf P w
held_from P {codes} {w} f g h =
    record {
      codes = λ a l. h.at a (omega arith) ∙ sym (words_low P codes a l) ∙ g.at _ (lt a);
      negated = λ a l.
          let e : element P.size (64 + a) ≡ element P.size a = element_cong P.size (64 + a) a (omega arith) in
          h.at (64 + a) (omega arith) ∙ sym (words_high P codes (64 + a) (omega arith)) ∙ g.at _ (f.inside _ (lt (64 + a)))
          ∙ ap (λ (x : ℕ). code_of P (P.complement x)) e;
    }
  where
    lt : (a : ℕ) → element P.size a < P.size
    lt a = element_lt P.size a f.some

-- ---- the rules of the complement

abbrev pub involutive : LatticePart → ℕ → Bool
involutive P a = eqb (P.complement (P.complement a)) a

unfoldable pub antitone_pair : List ℕ → ℕ → ℕ → Bool
antitone_pair w a b = within (get_or w a 0) (get_or w b 0) ⇒ within (get_or w (64 + b) 0) (get_or w (64 + a) 0)

unfoldable pub antitone : ℕ → List ℕ → Bool
antitone n w = all2 n (antitone_pair w)

pub antitone_skip : (w : List ℕ) (a b : ℕ) → within (get_or w a 0) (get_or w b 0) ≡ false → true ≡ antitone_pair w a b
unfolding antitone_pair
antitone_skip w a b h = rw h

pub antitone-test : (w : List ℕ) (a b : ℕ) → within (get_or w a 0) (get_or w b 0) ≡ true → within (get_or w (64 + b) 0) (get_or w (64 + a) 0) ≡ antitone_pair w a b
unfolding antitone_pair
antitone-test w a b h = rw h

-- the same for an equal number of elements
pub antitone-size : {n m : ℕ} (w : List ℕ) {t : Bool} → n ≡ m → antitone n w ≡ t → antitone m w ≡ t
antitone-size w e h = rw e at h

-- ---- a distributive lattice with its codes

pub record LatticeWords (P : LatticePart) (codes : List ℕ) (mask : ℕ) : Type 0 where
  pub lattice : DistributiveLattice P
  pub codes_are : Filled (code_of P) P.size codes
  pub mask_is : mask ≡ irreducibles P.size (down_of P)

-- ---- the answers

pub answered_refused : {R : LatticeReading} (f : Refusal) (w : List ℕ) → R ≡ refused f → Answered R (Err f) w
answered_refused f w e =
    rw e (record {
      answer = refl;
      codes = λ P h. absurd (let z : ◌≡◌ {A = ℕ} 0 1 = cc in omega arith);
    })

module _ {P : LatticePart} {codes : List ℕ} {mask : ℕ} (f : Formed P) (L : LatticeWords P codes mask) where
  rules_refused : complement_rules P.size P.order P.complement ≡ false → part_reading P ≡ refused BadComplement
  unfolding require
  rules_refused e = reading_lattice P L.lattice ∙ rw e

  rules_accepted : complement_rules P.size P.order P.complement ≡ true → part_reading P ≡ accepted P
  unfolding require
  rules_accepted e = reading_lattice P L.lattice ∙ rw e

  pub answered-involutive : (w : List ℕ) → all_below P.size (involutive P) ≡ false → Answered (part_reading P) (Err BadComplement) w
  unfolding complement_rules
  answered-involutive w e = answered_refused BadComplement w (rules_refused (ap (λ (t : Bool). t && all2 P.size (λ a b. P.order a b ⇒ P.order (P.complement b) (P.complement a))) e))

  -- the top and the bottom are found
  pub top_some : {r : Option ℕ} → FoundAt codes P.size mask r → IsSome r
  top_some t = sym t.word ∙ is_word_cong P.size (words_in codes) (code_of P) L.codes_are.at mask ∙ ap (is_word P.size (code_of P)) L.mask_is ∙ top-is_word P f L.lattice

  pub bottom_some : {r : Option ℕ} → FoundAt codes P.size 0 r → IsSome r
  bottom_some b = sym b.word ∙ is_word_cong P.size (words_in codes) (code_of P) L.codes_are.at 0 ∙ bottom_is_word P f L.lattice

  module _ {w : List ℕ} (h : Filled (words_by P codes) 128 w) where
    held : CodesOf P w
    held = held_from P f L.codes_are h

    rules : (all_below P.size (involutive P) && antitone P.size w) ≡ complement_rules P.size P.order P.complement
    unfolding antitone antitone_pair
    rules = complement-exactly P f L.lattice w held

    pub answered-antitone : antitone P.size w ≡ false → Answered (part_reading P) (Err BadComplement) w
    answered-antitone e = answered_refused BadComplement w (rules_refused (sym rules ∙ ap (λ (t : Bool). all_below P.size (involutive P) && t) e ∙ and_false (all_below P.size (involutive P))))

    pub answered-accepted : (l : Lattice) → all_below P.size (involutive P) ≡ true → antitone P.size w ≡ true → l.size ≡ P.size
        → FoundAt codes P.size mask (Some l.top.0) → FoundAt codes P.size 0 (Some l.bottom.0) → Answered (part_reading P) (Ok l) w
    answered-accepted l x y s t b =
        let D = L.lattice in
        let tl = t.hit _ refl in
        let bl = b.hit _ refl in
        let u : l.top.0 ≡ top_of P = sym (top_found P f D _ tl.0 (sym (L.codes_are.at _ tl.0) ∙ tl.1 ∙ L.mask_is)) in
        let d : l.bottom.0 ≡ bot_of P = sym (bottom_found P f D _ bl.0 (sym (L.codes_are.at _ bl.0) ∙ bl.1)) in
        let e : l ≡ top_and_bottom P = λ i. record { size = s i; top = record { 0 = u i }; bottom = record { 0 = d i } } in
        rw (rules_accepted (sym rules ∙ and_in _ _ x y))
        (record {
          answer = ap Ok e;
          codes = λ Q k. let z : P ≡ Q = cc in rw (← z) held;
        })
