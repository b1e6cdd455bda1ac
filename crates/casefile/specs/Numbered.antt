-- Which of the refusals 1 to 10 a case is given. Rests on Reading, Placed, RefusedAs, ModelsRead, FirstParts, refusal's First, lattice's Numbered and
-- Accepted, model's Accepted.
-- Here stand the definitions; the theorems are in proofs/Numbered.
--   CaseNumber, case-number: a case is refused with 1 to 10
use Rattle.std.specs.Prelude.{ℕ, ◌≡◌, List}
use Rattle.refusal.specs.declared.Refusal.{Refusal}
use Rattle.refusal.specs.Number.{number_of, part_of}
use Rattle.casefile.specs.Reading.{case_reading, refused}
use Rattle.casefile.specs.ModelsRead.{Between}

abbrev pub CaseNumber : Refusal → Type 0
CaseNumber r = Between 1 r

-- number and part of the refusal of a case
abbrev pub CaseRefused : List ℕ → ℕ → ℕ → Type 0
CaseRefused b n p = (r : Refusal) × (case_reading b ≡ refused r) × (number_of r ≡ n) × (part_of r ≡ p)
