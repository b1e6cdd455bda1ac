-- The gapless case of a list of parts, and of the parts of a case. Rests on Directory.
--   u16_then, pairs, joined, directory, gapless: a number, the pairs, the parts' bytes, the count with the pairs, and the whole
--   pairs_of, joined_of, gapless_of: the same for the parts of a case
use Rattle.std.specs.Prelude.{ℕ, ◌+◌, ◌*◌, ◌/◌, ◌%◌, List, [], ◌∷◌, ◌++◌, length}
use Rattle.casefile.specs.Directory.{directory_end, parts_of}

-- a number of 16 bits, low byte first, before b
abbrev pub u16_then : ℕ → List ℕ → List ℕ
u16_then x b = x % 256 ∷ x / 256 ∷ b

-- the pairs of offset and length of parts that stand one after the other, the first at `at`
unfoldable pub pairs : ℕ → List (List ℕ) → List ℕ
pairs at [] = []
pairs at (p ∷ ps) = u16_then at (u16_then (length p) (pairs (at + length p) ps))

-- the bytes of the parts, one after the other
unfoldable pub joined : List (List ℕ) → List ℕ
joined [] = []
joined (p ∷ ps) = p ++ joined ps

-- the count of parts, then the pairs, where the parts follow without a gap
abbrev pub directory : List (List ℕ) → List ℕ
directory ps = length ps ∷ pairs (1 + 4 * length ps) ps

unfoldable pub gapless : List (List ℕ) → List ℕ
unfolding pairs joined
gapless ps = directory ps ++ joined ps

-- the pairs, the bytes of the parts, and the whole, for the parts of the case b
abbrev pub pairs_of : List ℕ → List ℕ
pairs_of b = pairs (directory_end b) (parts_of b)

abbrev pub joined_of : List ℕ → List ℕ
joined_of b = joined (parts_of b)

abbrev pub gapless_of : List ℕ → List ℕ
gapless_of b = gapless (parts_of b)
