-- What the calls read in the content of a case. Rests on casefile's Reading and Gapless, and the theory.
--   ops, lattice_size; model1, model2, N1, N2, table_size: the lattice, the two models, and the sizes of these and of a table
--   model_in, formula_in: a model and a formula by their numbers
--   operator, round_in, IsT: F, its rounds, and being T; limit: N1·N2·(n − 1)
--   differing_in, lowerings_in: in how many entries two tables differ, and the lowerings of the rounds 1 to r
--   entry_at, table_bytes: the entries of a table in the order of its bytes
--   case_bytes: the case without gaps
use Rattle.std.specs.Prelude.{ℕ, ◌*◌, ◌-◌, ◌/◌, ◌%◌, cond, List, eqb, get_or}
use Rattle.theory.specs.Lattice.{Ops}
use Rattle.theory.specs.Model.{Model}
use Rattle.theory.specs.Formula.{Formula, bottom}
use Rattle.theory.specs.Simulation.{F, round, FirstUnchanged, differing, lowerings}
use Rattle.theory.specs.Part.{ops_of, model_of}
use Rattle.theory.specs.Lists.{tab}
use Rattle.casefile.specs.Reading.{Content, content_parts}
use Rattle.casefile.specs.Gapless.{gapless}

-- the lattice and the models, with their sizes n, N1 and N2; the entries of a table, N1·N2
abbrev pub ops : Content → Ops ℕ
ops c = ops_of c.lattice

abbrev pub lattice_size : Content → ℕ
lattice_size c = c.lattice.size

abbrev pub model1 : Content → Model ℕ
model1 c = model_of c.model1_bytes

abbrev pub model2 : Content → Model ℕ
model2 c = model_of c.model2_bytes

abbrev pub N1 : Content → ℕ
N1 c = (model1 c).states

abbrev pub N2 : Content → ℕ
N2 c = (model2 c).states

abbrev pub table_size : Content → ℕ
table_size c = N1 c * N2 c

-- model 1 or 2, and the formula f: 'the rest formulas numbered from 0'
abbrev pub model_in : Content → ℕ → Model ℕ
model_in c m = cond (eqb m 1) (model1 c) (model2 c)

abbrev pub formula_in : Content → ℕ → Formula
formula_in c f = get_or c.formulas f bottom

-- F, its rounds and T
abbrev pub operator : Content → (ℕ → ℕ → ℕ) → ℕ → ℕ → ℕ
operator c = F (ops c) (model1 c) (model2 c)

abbrev pub round_in : Content → ℕ → ℕ → ℕ → ℕ
round_in c = round (ops c) (model1 c) (model2 c)

abbrev pub IsT : Content → ℕ → Type 0
IsT c = FirstUnchanged (ops c) (model1 c) (model2 c)

-- in how many of the N1·N2 entries two tables differ (request 107)
abbrev pub differing_in : Content → (ℕ → ℕ → ℕ) → (ℕ → ℕ → ℕ) → ℕ
differing_in c S U = differing eqb (N1 c) (N2 c) S U

-- 'the entries that differ from the round before, summed over' the rounds 1 to r
abbrev pub lowerings_in : Content → ℕ → ℕ
lowerings_in c r = lowerings eqb (N1 c) (N2 c) (round_in c) r

-- N1·N2·(n − 1)
abbrev pub limit : Content → ℕ
limit c = table_size c * (lattice_size c - 1)

-- the entries of a table in the order of its bytes: 'Entry (q1, q2) is byte q1·N2 + q2'
abbrev pub entry_at : Content → (ℕ → ℕ → ℕ) → ℕ → ℕ
entry_at c S i = S (i / N2 c) (i % N2 c)

abbrev pub table_bytes : Content → (ℕ → ℕ → ℕ) → List ℕ
table_bytes c S = tab (entry_at c S) (table_size c) 0

-- the case as it is written back (request 105): 'parts without gaps, directory first, the panel lattice as its one byte if it was loaded so'. The bytes
-- of the lattice part are in the content, so that the form in which it was loaded is kept.
abbrev pub case_bytes : Content → List ℕ
case_bytes c = gapless (content_parts c)
