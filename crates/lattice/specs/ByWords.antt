-- What the check answers, and the answer from the tests of words. Rests on lattice's Reading, Answer and Accepted, elements' Words, Tests, Cong,
-- Lattice, Order, Accepting, Held.
--   Answered: the answer is the reading's, and an accepted part's operations are in the words
--   lattice_by, reason_by: the tests of words, as the code makes them; reading_lattice, reading-reason: what they say of the reading
--   mask_is, codes_are, lattice_by_lem: the code's words are those of the part
use Rattle.std.specs.Prelude.{ℕ, ◌<◌, ◌≡◌, Bool, List}
use Rattle.std.proofs.Math.Path.{refl, ap, ap₂}
use Rattle.std.proofs.Common.{sym, ◌∙◌}
use Rattle.std.proofs.Math.Bool.{true, false, cond, ◌&&◌}
use Rattle.std.specs.Int.Bits.{bit_and}
use Rattle.theory.specs.Lists.{Filled}
use Rattle.theory.specs.Part.{LatticePart, meet_of, join_of}
use Rattle.theory.specs.TestLaws.{and_in, false_true}
use Rattle.refusal.specs.declared.Refusal.{Refusal}
use Rattle.refusal.specs.declared.Refusal.TheVariants.{NoPartialOrder, NoMeetOrJoin, NotDistributive, BadComplement}
use Rattle.lattice_order.specs.Tests.{partial_order, meets_and_joins, distributive, complement_rules}
use Rattle.lattice_order.specs.Ordered.{ordered_in, ordered_out, meets_and_joins_in}
use Rattle.lattice.specs.Reading.{refused, accepted, require, part_reading}
use Rattle.lattice_codes.specs.Tests.{words_in, codes_by, down_of, all_of, is_word, ordered, closed, irreducibles, code_of, lattice_test, meets_and_joins_test}
use Rattle.lattice_codes.specs.Cong.{is_word_cong, closed_cong, irreducibles_cong, ordered_cong}
use Rattle.lattice_codes.specs.Order.{ordered_exactly}
use Rattle.lattice_codes.specs.MeetsJoinsFound.{meets_and_joins_exactly}
use Rattle.lattice_codes.specs.Accepting.{DistributiveLattice}
use Rattle.lattice_codes.proofs.Accepting.{lattice_exactly}

-- ---- the tests on lists of words

-- the part is a distributive lattice, by its words and its codes
abbrev pub lattice_by : ℕ → List ℕ → List ℕ → ℕ → Bool
lattice_by n down codes mask = ordered n (words_in down) (words_in codes) && closed n (words_in codes) mask true && is_word n (words_in codes) 0

-- why it is not one
unfoldable pub reason_by : ℕ → List ℕ → Refusal
reason_by n down =
    cond (ordered n (words_in down) (words_in down))
    (cond (closed n (words_in down) (all_of n) false && is_word n (words_in down) (all_of n)) NotDistributive NoMeetOrJoin)
    NoPartialOrder

-- `down` holds the words of the order of P
module _ (P : LatticePart) (down : List ℕ) (f : Filled (down_of P) P.size down) where
  pub mask_is : irreducibles P.size (words_in down) ≡ irreducibles P.size (down_of P)
  mask_is = irreducibles_cong P.size (words_in down) (down_of P) f.at

  -- the codes filled by the mask are those of the part
  pub codes_are : {codes : List ℕ} {mask : ℕ} → mask ≡ irreducibles P.size (words_in down) → Filled (codes_by down mask) P.size codes → Filled (code_of P) P.size codes
  codes_are e g = record { at = λ a l. g.at a l ∙ ap₂ bit_and (f.at a l) (e ∙ mask_is) }

  pub lattice_by_lem : {codes : List ℕ} {mask : ℕ} → mask ≡ irreducibles P.size (words_in down) → Filled (code_of P) P.size codes → lattice_by P.size down codes mask ≡ lattice_test P
  lattice_by_lem {codes} {mask} e g =
      ap₂ ◌&&◌
      (ap₂ ◌&&◌ (ordered_cong P.size (words_in down) (down_of P) (words_in codes) (code_of P) f.at g.at)
      (closed_cong P.size (words_in codes) (code_of P) g.at mask true ∙ ap (λ (m : ℕ). closed P.size (code_of P) m true) (e ∙ mask_is)))
      (is_word_cong P.size (words_in codes) (code_of P) g.at 0)

  module _ (some : 0 < P.size) where
    reason-is : reason_by P.size down ≡ cond (partial_order P.size P.order) (cond (meets_and_joins_test P) NotDistributive NoMeetOrJoin) NoPartialOrder
    unfolding reason_by
    reason-is =
        let x = ordered_cong P.size (words_in down) (down_of P) (words_in down) (down_of P) f.at f.at ∙ ordered_exactly P in
        let y : (closed P.size (words_in down) (all_of P.size) false && is_word P.size (words_in down) (all_of P.size)) ≡ meets_and_joins_test P =
        ap₂ ◌&&◌ (closed_cong P.size (words_in down) (down_of P) f.at (all_of P.size) false) (is_word_cong P.size (words_in down) (down_of P) f.at (all_of P.size)) in
        λ i. cond (x i) (cond (y i) NotDistributive NoMeetOrJoin) NoPartialOrder

    -- a part that fails is refused, for this reason
    pub reading-reason : lattice_test P ≡ false → part_reading P ≡ refused (reason_by P.size down)
    unfolding part_reading require
    reading-reason t =
        go (partial_order P.size P.order) refl (meets_and_joins P) refl (distributive P.size (meet_of P) (join_of P)) refl ∙ ap refused (sym reason-is)
      where
        go : (x : Bool) → partial_order P.size P.order ≡ x → (y : Bool) → meets_and_joins P ≡ y → (z : Bool) → distributive P.size (meet_of P) (join_of P) ≡ z
            → require x NoPartialOrder (require y NoMeetOrJoin (require z NotDistributive (require (complement_rules P.size P.order P.complement) BadComplement (accepted P))))
            ≡ refused (cond x (cond (meets_and_joins_test P) NotDistributive NoMeetOrJoin) NoPartialOrder)
        go false p y q z r = refl
        go true p false q z r = rw (meets_and_joins_exactly P (ordered_out P p) some ∙ q)
        go true p true q false r = rw (meets_and_joins_exactly P (ordered_out P p) some ∙ q)
        go true p true q true r = absurd (false_true t (lattice_exactly P some ∙ and_in _ _ (and_in _ _ p q) r))

-- of a distributive lattice, the complement's rules are left to test
pub reading_lattice : (P : LatticePart) → DistributiveLattice P → part_reading P ≡ require (complement_rules P.size P.order P.complement) BadComplement (accepted P)
unfolding part_reading require
reading_lattice P D = rw (ordered_in P D.order, meets_and_joins_in P D.meets_and_joins_lem, D.distributes)
