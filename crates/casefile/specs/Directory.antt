-- The directory of a case: where its parts stand, and whether they may stand there. Rests on theory's Test.
--   part_count, directory_end, u16_at, part_start, part_size, part_end, end_before: what the directory says
--   size_test, directory_test, placed, misplaced: refusals 1, 2 and 3
--   part_at, parts_from, parts_of: the bytes of the parts
use Rattle.std.specs.Prelude.{ℕ, zero, suc, ◌+◌, ◌*◌, Bool, not, ◌&&◌, List, [], ◌∷◌, ltb, leb, length, get_or, take, drop}
use Rattle.theory.specs.Test.{first_below}

-- 'a count of parts (3 to 11), then a pair of offset and length for each part'
abbrev pub part_count : List ℕ → ℕ
part_count b = get_or b 0 0

abbrev pub directory_end : List ℕ → ℕ
directory_end b = 1 + 4 * part_count b

-- 'each 16 bits with the low byte first'
abbrev pub u16_at : List ℕ → ℕ → ℕ
u16_at b at = get_or b at 0 + 256 * get_or b (at + 1) 0

unfoldable pub part_start : List ℕ → ℕ → ℕ
part_start b i = u16_at b (1 + 4 * i)

unfoldable pub part_size : List ℕ → ℕ → ℕ
part_size b i = u16_at b (3 + 4 * i)

-- the sum is a number of any size: it is not wrapped at 16 bits
abbrev pub part_end : List ℕ → ℕ → ℕ
part_end b i = part_start b i + part_size b i

-- the end of the part before part i; nothing stands before part 0
abbrev pub end_before : List ℕ → ℕ → ℕ
end_before b zero = 0
end_before b (suc i) = part_end b i

-- 'A part starts at or after the directory's end and at or after the end of the part before it, and ends within the case', and
-- its length is not 0
unfoldable pub placed : List ℕ → ℕ → Bool
placed b i =
    ltb 0 (part_size b i) && leb (directory_end b) (part_start b i) && leb (end_before b i) (part_start b i) && leb (part_end b i) (length b)

-- 'the case is empty or over 32,768 bytes'
abbrev pub size_test : List ℕ → Bool
size_test b = ltb 0 (length b) && leb (length b) 32768

-- 'the count is not 3 to 11, or the directory does not fit'
abbrev pub directory_test : List ℕ → Bool
directory_test b = leb 3 (part_count b) && leb (part_count b) 11 && leb (directory_end b) (length b)

-- the first part that does not stand where it may; the count of parts where all do
unfoldable pub misplaced : List ℕ → ℕ
misplaced b = first_below (part_count b) (λ i. not (placed b i))

-- the bytes of part i, and of the n parts from part i on
abbrev pub part_at : List ℕ → ℕ → List ℕ
part_at b i = take (part_size b i) (drop (part_start b i) b)

unfoldable pub parts_from : List ℕ → ℕ → ℕ → List (List ℕ)
parts_from b i zero = []
parts_from b i (suc n) = part_at b i ∷ parts_from b (suc i) n

-- all parts of a case
abbrev pub parts_of : List ℕ → List (List ℕ)
parts_of b = parts_from b 0 (part_count b)
