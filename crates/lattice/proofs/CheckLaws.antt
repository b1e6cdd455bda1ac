-- The steps of the check. Rests on lattice's Reading and Accepted, Tests, Accepting, Answer, Filling.
--   form_refused, form_answered: refusal 4, and the answer past it; size_most: an accepted form has at most 64 elements
--   check_refused, check_words: what the test of a lattice gives, failed and passed
use Rattle.std.specs.Prelude.{ℕ, ◌≡◌, ◌≤◌, true, false, List, length, Result, Err}
use Rattle.std.proofs.Common.{sym, ap, ◌∙◌, arith}
use Rattle.theory.specs.Lists.{Filled}
use Rattle.theory.specs.Part.{LatticePart}
use Rattle.refusal.specs.declared.Refusal.{Refusal}
use Rattle.refusal.specs.declared.Refusal.TheVariants.{LatticeForm}
use Rattle.elements.specs.declared.Lattice.{Lattice}
use Rattle.lattice.specs.Reading.{refused, require, lattice_of, lattice_form, lattice_reading, part_reading}
use Rattle.lattice.specs.Accepted.{formed}
use Rattle.lattice_codes.specs.Tests.{words_in, codes_by, down_of, irreducibles, code_of, lattice_test}
use Rattle.lattice_codes.proofs.Accepting.{lattice_sound}
use Rattle.lattice.specs.Answer.{Answered}
use Rattle.lattice.specs.ByWords.{lattice_by, reason_by, mask_is, codes_are, lattice_by_lem, reading-reason}
use Rattle.lattice.specs.Filling.{LatticeWords, answered_refused}

pub form_refused : (b w : List ℕ) → lattice_form b ≡ false → Answered (lattice_reading b) (Err LatticeForm) w
unfolding lattice_reading require
form_refused b w e = answered_refused LatticeForm w (rw e)

pub form_answered : (b : List ℕ) {r : Result Lattice Refusal} {w : List ℕ} → lattice_form b ≡ true → Answered (part_reading (lattice_of b)) r w → Answered (lattice_reading b) r w
unfolding lattice_reading require
form_answered b e h = rw e h

-- n is the number of elements
pub size_most : (b : List ℕ) {n m : ℕ} → lattice_form b ≡ true → n ≡ m → m ≡ (lattice_of b).size → n ≤ 64
size_most b f e d = let w = formed b f in omega (arith, w.most)

module _ (b : List ℕ) (form : lattice_form b ≡ true) {mask : ℕ} {down codes : List ℕ} (e : length down ≡ (lattice_of b).size) (k : length codes ≡ length down)
    (f : Filled (down_of (lattice_of b)) (length down) down) (m : mask ≡ irreducibles (length down) (words_in down)) (g : Filled (codes_by down mask) (length codes) codes) where
  abbrev P : LatticePart
  P = lattice_of b

  words_are : Filled (down_of P) P.size down
  words_are = rw e at f

  mask_by : mask ≡ irreducibles P.size (words_in down)
  mask_by = rw e at m

  codes_by_lem : Filled (code_of P) P.size codes
  codes_by_lem = codes_are P down words_are mask_by (rw (k ∙ e) at g)

  test : lattice_by (length down) down codes mask ≡ lattice_test P
  test = ap (λ (n : ℕ). lattice_by n down codes mask) e ∙ lattice_by_lem P down words_are mask_by codes_by_lem

  pub check_refused : lattice_by (length down) down codes mask ≡ false → (r : Refusal) → r ≡ reason_by (length down) down → (w : List ℕ) → Answered (lattice_reading b) (Err r) w
  check_refused t r h w =
      form_answered b form
      (answered_refused r w
      (reading-reason P down words_are (formed b form).some (sym test ∙ t) ∙ ap refused (sym (h ∙ ap (λ (n : ℕ). reason_by n down) e))))

  pub check_words : lattice_by (length down) down codes mask ≡ true → LatticeWords P codes mask
  check_words t = record { lattice = lattice_sound P (sym test ∙ t); codes_are = codes_by_lem; mask_is = mask_by ∙ mask_is P down words_are }
