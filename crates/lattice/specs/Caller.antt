-- What a caller of the check learns of a part from the answer. Rests on theory's Lattice, lattice_order's Sound, lattice_codes' Held, Reading, Answer and
-- Accepted.
--   codes-ops, codes-coded: the codes of an accepted part hold its operations, and are as `elements` asks
--   AcceptedPart: the part is accepted, size, top, bottom and codes are its own, no refusal applies, and the laws hold
--   when_accepted, when_refused: after each answer
use Rattle.std.specs.Prelude.{ℕ, ◌≡◌, refl, List, Ok, Err}
use Rattle.std.proofs.Common.{arith}
use Rattle.theory.specs.Lattice.{Laws}
use Rattle.theory.specs.Part.{LatticePart, ops_of}
use Rattle.elements.specs.declared.Lattice.{Lattice}
use Rattle.elements.specs.Words.{ops_in, Coded}
use Rattle.refusal.specs.declared.Refusal.{Refusal}
use Rattle.lattice_order.specs.Sound.{LatticeSound}
use Rattle.lattice_order.proofs.Sound.{laws_of}
use Rattle.lattice_codes.specs.Accepting.{DistributiveLattice}
use Rattle.lattice_codes.proofs.Held.{held-ops, held-coded}
use Rattle.lattice.specs.Reading.{LatticeReading, refused, accepted, lattice_of, lattice_reading}
use Rattle.lattice.specs.Answer.{top_and_bottom, CodesOf, Answered}
use Rattle.lattice.specs.Accepted.{accepted_sound}

module _ (P : LatticePart) (s : LatticeSound P) (w : List ℕ) (h : CodesOf P w) where
  lattice : DistributiveLattice P
  lattice = record { order = s.ordered; meets_and_joins_lem = s.meets_and_joins_lem; distributes = s.distributes }

  pub codes-ops : ops_in w (top_and_bottom P) ≡ ops_of P
  codes-ops = held-ops P s.formed lattice w h

  pub codes-coded : Coded w (top_and_bottom P)
  codes-coded = held-coded P s.formed lattice w h

-- after the answer that the part b is accepted with the numbers l
pub record AcceptedPart (b : List ℕ) (l : Lattice) (w : List ℕ) : Type 0 where
  pub reading : lattice_reading b ≡ accepted (lattice_of b)
  pub top_and_bottom_lem : l ≡ top_and_bottom (lattice_of b)
  pub codes : CodesOf (lattice_of b) w
  pub ops : ops_in w l ≡ ops_of (lattice_of b)
  pub coded : Coded w l
  pub sound : LatticeSound (lattice_of b)
  pub laws : Laws (ops_in w l)

pub when_accepted : (b : List ℕ) (l : Lattice) (w : List ℕ) → Answered (lattice_reading b) (Ok l) w → AcceptedPart b l w
when_accepted b l w h = go (lattice_reading b) refl h
  where
    go : (R : LatticeReading) → lattice_reading b ≡ R → Answered R (Ok l) w → AcceptedPart b l w
    go (refused f) e v = absurd (let h = v.answer in let z : ◌≡◌ {A = ℕ} 0 1 = cc in omega arith)
    go (accepted P) e v =
        let s = accepted_sound b P e in
        let h = v.answer in
        let c : CodesOf (lattice_of b) w = rw (← s.0) (v.codes P refl) in
        let q : l ≡ top_and_bottom (lattice_of b) = rw (← s.0) (let q : l ≡ top_and_bottom P = cc in q) in
        let p : ops_in w l ≡ ops_of (lattice_of b) = rw q (codes-ops (lattice_of b) s.1 w c) in
        record {
          reading = rw (← s.0) e;
          top_and_bottom_lem = q;
          codes = c;
          ops = p;
          coded = rw q (codes-coded (lattice_of b) s.1 w c);
          sound = s.1;
          laws = rw p (laws_of (lattice_of b) s.1);
        }

-- after the answer that it is refused
pub when_refused : (b : List ℕ) (f : Refusal) (w : List ℕ) → Answered (lattice_reading b) (Err f) w → lattice_reading b ≡ refused f
when_refused b f w h = go (lattice_reading b) h
  where
    go : (R : LatticeReading) → Answered R (Err f) w → R ≡ refused f
    go (refused g) v = let h = v.answer in cc
    go (accepted P) v = absurd (let h = v.answer in let z : ◌≡◌ {A = ℕ} 0 1 = cc in omega arith)
