-- What comes of the models of a case, after its lattice: refusal 9 with part 1 or with part 2, or what is found from the formulas on. Rests on Reading.
-- Here stand the definitions; the theorems are in proofs/ModelsRead.
use Rattle.std.specs.Prelude.{ℕ, ◌≤◌}
use Rattle.refusal.specs.declared.Refusal.{Refusal}
use Rattle.refusal.specs.Number.{number_of}

-- the number of a refusal is from `least` up to 10
abbrev pub Between : ℕ → Refusal → Type 0
Between least r = (least ≤ number_of r) × (number_of r ≤ 10)
