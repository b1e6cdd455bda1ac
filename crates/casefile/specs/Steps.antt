-- What the steps of the check answer, and what the steps of the writer leave in a buffer. Rests on Answer and Gapless.
--   well_placed, is_read: the tests of the check; parts_answer, PartsAnswered: what it answers for the parts
--   after_checked, models_answer, after_first, second_answer, after_second, rest_answer, rest_of, formulas_answer: the same step by step
--   with_u16, with_pair, with_pairs, with_parts: what the steps of the writer leave in a buffer
use Rattle.std.specs.Prelude.{ℕ, ◌+◌, ◌*◌, ◌-◌, ◌/◌, ◌%◌, ◌≡◌, Bool, cond, ◌&&◌, List, ltb, leb, eqb, length, set, Option, Some, None, Result, Ok, Err}
use Rattle.std.specs.Option.{is_some}
use Rattle.theory.specs.Part.{LatticePart}
use Rattle.elements.specs.declared.Lattice.{Lattice}
use Rattle.casefile.specs.declared.Sizes.{Sizes}
use Rattle.theory.specs.Lists.{written}
use Rattle.refusal.specs.declared.Refusal.{Refusal}
use Rattle.refusal.specs.declared.Refusal.TheVariants.{BadModel, BadFormula}
use Rattle.lattice.specs.Reading.{accepted, lattice_reading}
use Rattle.lattice.specs.Answer.{lattice_answer, CodesOf}
use Rattle.model.specs.declared.ModelSize.{ModelSize}
use Rattle.model.specs.Reading.{model_answer}
use Rattle.formula.specs.Bytes.{FormulaReading}
use Rattle.formula.specs.Answer.{checked}
use Rattle.casefile.specs.Directory.{part_count, directory_end, part_start, part_size, part_end, part_at, parts_from}
use Rattle.casefile.specs.Gapless.{pairs_of, joined_of}
use Rattle.casefile.specs.Reading.{FormulasReading, formulas_reading, refused_at, read}

-- ---- the check

-- part i is not empty, starts at `from` or later, and ends within the case
abbrev pub well_placed : List ℕ → ℕ → ℕ → Bool
well_placed b i from = ltb 0 (part_size b i) && leb from (part_start b i) && leb (part_end b i) (length b)

-- a formula part is read
abbrev pub is_read : FormulaReading → Bool
is_read x = is_some (checked x)

-- the answer for the formulas
abbrev pub formulas_answer : FormulasReading → Result (Unit {0}) Refusal
formulas_answer (refused_at i) = Err (BadFormula i)
formulas_answer (read fs) = Ok tt

-- the answer after a lattice and two models
abbrev pub rest_of : List ℕ → Lattice → ℕ → ℕ → ℕ → Result (Unit {0}) Refusal → Result Sizes Refusal
rest_of b l N1 N2 k (Err r) = Err r
rest_of b l N1 N2 k (Ok u) = Ok (record { lattice = l; states1 = N1; states2 = N2; propositions = k; formulas = part_count b - 3 })

abbrev pub rest_answer : List ℕ → Lattice → ℕ → ℕ → ℕ → Result Sizes Refusal
rest_answer b l N1 N2 k = rest_of b l N1 N2 k (formulas_answer (formulas_reading k 3 (parts_from b 3 (part_count b - 3))))

-- the answer for model 2, after a lattice and model 1 with N1 states and k propositions
abbrev pub after_second : List ℕ → Lattice → ℕ → ℕ → Option ModelSize → Result Sizes Refusal
after_second b l N1 k None = Err (BadModel 2)
after_second b l N1 k (Some z) = cond (eqb k z.propositions) (rest_answer b l N1 z.states k) (Err (BadModel 2))

abbrev pub second_answer : List ℕ → Lattice → ℕ → ℕ → Result Sizes Refusal
second_answer b l N1 k = after_second b l N1 k (model_answer l.size (part_at b 2))

-- the answer for model 1, after a lattice
abbrev pub after_first : List ℕ → Lattice → Option ModelSize → Result Sizes Refusal
after_first b l None = Err (BadModel 1)
after_first b l (Some z) = second_answer b l z.states z.propositions

abbrev pub models_answer : List ℕ → Lattice → Result Sizes Refusal
models_answer b l = after_first b l (model_answer l.size (part_at b 1))

-- the answer for all parts
abbrev pub after_checked : List ℕ → Result Lattice Refusal → Result Sizes Refusal
after_checked b (Err f) = Err f
after_checked b (Ok l) = models_answer b l

abbrev pub parts_answer : List ℕ → Result Sizes Refusal
parts_answer b = after_checked b (lattice_answer (lattice_reading (part_at b 0)))

-- the answer r and the codes w that the check of the parts gives
pub record PartsAnswered (b : List ℕ) (r : Result Sizes Refusal) (w : List ℕ) : Type 0 where
  pub answer : r ≡ parts_answer b
  pub codes : (P : LatticePart) → lattice_reading (part_at b 0) ≡ accepted P → CodesOf P w

-- ---- the writer

-- d with a number of 16 bits at the place `at`, and with the pair of part i
abbrev pub with_u16 : List ℕ → ℕ → ℕ → List ℕ
with_u16 d at x = set (set d at (x % 256)) (at + 1) (x / 256)

abbrev pub with_pair : List ℕ → ℕ → ℕ → ℕ → List ℕ
with_pair d i start size = with_u16 (with_u16 d (1 + 4 * i) start) (3 + 4 * i) size

-- d with the pairs of the parts of b, and with the parts themselves, where they stand in the gapless case
abbrev pub with_pairs : List ℕ → List ℕ → List ℕ
with_pairs b d = written 1 (pairs_of b) d

abbrev pub with_parts : List ℕ → List ℕ → List ℕ
with_parts b d = written (directory_end b) (joined_of b) d
