-- What the check answers for a reading of a lattice part. Rests on theory's Part, lattice_codes' Held, Reading.
use Rattle.std.specs.Prelude.{◌≡◌, List, ℕ, Result, Ok, Err}
use Rattle.theory.specs.Part.{LatticePart}
pub use Rattle.lattice_codes.specs.Held.{top_and_bottom, CodesOf}
use Rattle.lattice.specs.Reading.{LatticeReading, refused, accepted}
use Rattle.elements.specs.declared.Lattice.{Lattice}
use Rattle.refusal.specs.declared.Refusal.{Refusal}

-- the answer for a reading
abbrev pub lattice_answer : LatticeReading → Result Lattice Refusal
lattice_answer (refused f) = Err f
lattice_answer (accepted P) = Ok (top_and_bottom P)

-- The answer r is the reading's, and where the part P is accepted, the words w are the codes of P's elements and of their complements. After a
-- refusal they are free.
pub record Answered (reading : LatticeReading) (r : Result Lattice Refusal) (w : List ℕ) : Type 0 where
  pub answer : r ≡ lattice_answer reading
  pub codes : (P : LatticePart) → reading ≡ accepted P → CodesOf P w
