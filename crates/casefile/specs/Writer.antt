-- The loops over the parts of a case that write its gapless form, or count its bytes. Rests on Appended, Gapless and Accepted.
-- Here stand the definitions; the theorems are in proofs/WriterLaws.
--   Measured: the place that a loop over the parts has come to; measured_none, -more, -small, -done: its begin, its turn, its size and its end
--   Writing: such a loop that writes, and its two kinds, PairsWritten and PartsWritten
--   Room, writing_room: what a turn asks for
use Rattle.std.specs.Prelude.{ℕ, ◌+◌, ◌*◌, ◌-◌, ◌≤◌, ◌<◌, ◌≡◌, List, ◌++◌, take}
use Rattle.std.proofs.Math.ListN.{length}
use Rattle.casefile.specs.Directory.{part_count, directory_end, part_size, part_at, parts_from, parts_of}
use Rattle.casefile.specs.Gapless.{pairs, joined, gapless_of}
use Rattle.casefile.specs.Conditions.{Placed}
use Rattle.casefile.specs.Appended.{Appended}

-- the parts from part i on, which begin with part i
abbrev pub parts_left : List ℕ → ℕ → List (List ℕ)
parts_left b i = parts_from b i (part_count b - i)

-- the place that such a loop has come to: with the parts from part i on after it, it is the end of the gapless case
pub record Measured (b : List ℕ) (i at : ℕ) : Type 0 where
  pub placed : Placed b
  pub offset : at + length (joined (parts_left b i)) ≡ length (gapless_of b)

-- where such a loop has come to, in a buffer that was d. It writes, from the place `from` on, what f makes of the parts and of the offset of
-- the first: the pairs, or the parts themselves. What is left of it, from part i on with the offset `at`, goes to `place`
pub record Writing (f : ℕ → List (List ℕ) → List ℕ) (from : ℕ) (b d out : List ℕ) (i at place : ℕ) : Type 0 where
  pub measured : Measured b i at
  pub fits : length (gapless_of b) ≤ length d
  pub front : from ≤ directory_end b
  pub appended : Appended d out place (f at (parts_left b i)) (take from d ++ f (directory_end b) (parts_of b))

abbrev pub PairsWritten : List ℕ → List ℕ → List ℕ → ℕ → ℕ → Type 0
PairsWritten b d out i at = Writing pairs 1 b d out i at (1 + 4 * i)

abbrev pub PartsWritten : List ℕ → List ℕ → List ℕ → ℕ → ℕ → Type 0
PartsWritten b d out i at = Writing (λ n. joined) (directory_end b) b d out i at at

-- what a turn asks for: the directory and part i are within the buffer, and the part's end is of 16 bits
pub record Room (b d : List ℕ) (i at : ℕ) : Type 0 where
  pub directory-within : directory_end b ≤ length d
  pub part_within : at + length (part_at b i) ≤ length d
  pub end_small : at + length (part_at b i) < 65536
  pub sized : length (part_at b i) ≡ part_size b i
