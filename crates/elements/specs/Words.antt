-- A lattice in 128 words. Rests on theory's Lattice, Part and Test.
--   code_in, negated_code_in, value_code: the code of an element, that of its complement, and one or the other; decode_in: the first number with a code
--   at_most_in, meet_in, join_in, complement_in: the operations; ops_in: all of them
--   Coded: what 128 words must be for that
use Rattle.std.specs.Prelude.{ℕ, ◌+◌, ◌%◌, ◌≤◌, ◌<◌, ◌≡◌, Bool, cond, List, ltb, eqb, get_or}
use Rattle.std.specs.Int.Bits.{bit_and, bit_or}
use Rattle.theory.specs.Lattice.{Ops}
use Rattle.theory.specs.Part.{element}
use Rattle.theory.specs.Test.{first_below}
use Rattle.elements.specs.declared.Lattice.{Lattice}

-- the code of an element, and that of its complement; any number is read as its remainder by 64
abbrev pub code_in : List ℕ → ℕ → ℕ
code_in w a = get_or w (a % 64) 0

abbrev pub negated_code_in : List ℕ → ℕ → ℕ
negated_code_in w a = get_or w (64 + a % 64) 0

-- one or the other
abbrev pub value_code : Bool → List ℕ → ℕ → ℕ
value_code negated w a = cond negated (negated_code_in w a) (code_in w a)

-- the first number below 64 with the code x; 64 for none
abbrev pub decode_in : List ℕ → ℕ → ℕ
decode_in w x = first_below 64 (λ a. eqb (get_or w a 0) x)

-- x is within y
abbrev pub within : ℕ → ℕ → Bool
within x y = eqb (bit_and x y) x

abbrev pub at_most_in : List ℕ → ℕ → ℕ → Bool
at_most_in w a b = within (code_in w a) (code_in w b)

abbrev pub meet_in : List ℕ → ℕ → ℕ → ℕ
meet_in w a b = decode_in w (bit_and (code_in w a) (code_in w b))

abbrev pub join_in : List ℕ → ℕ → ℕ → ℕ
join_in w a b = decode_in w (bit_or (code_in w a) (code_in w b))

abbrev pub complement_in : List ℕ → ℕ → ℕ
complement_in w a = decode_in w (negated_code_in w a)

-- the operations that the words w and the numbers l hold
abbrev pub ops_in : List ℕ → Lattice → Ops ℕ
ops_in w l =
    record {
      size = l.size;
      is_element = λ a. ltb a l.size;
      at_most = at_most_in w;
      meet = meet_in w;
      join = join_in w;
      neg = complement_in w;
      top = l.top.0;
      bot = l.bottom.0;
    }

-- x is the code of an element
pub record IsCode (w : List ℕ) (n x : ℕ) : Type 0 where
  pub element : ℕ
  pub below : element < n
  pub code : x ≡ get_or w element 0

-- The words of a lattice: different elements have different codes, & and | of two codes are codes, a number that is no element has the words
-- of element 0, the complements' words are codes, and top and bottom are the elements that have every bit and none of any code.
pub record Coded (w : List ℕ) (l : Lattice) : Type 0 where
  pub some : 0 < l.size
  pub most : l.size ≤ 64
  pub distinct : (a b : ℕ) → a < l.size → b < l.size → get_or w a 0 ≡ get_or w b 0 → a ≡ b
  pub meets : (a b : ℕ) → a < l.size → b < l.size → IsCode w l.size (bit_and (get_or w a 0) (get_or w b 0))
  pub joins : (a b : ℕ) → a < l.size → b < l.size → IsCode w l.size (bit_or (get_or w a 0) (get_or w b 0))
  pub padded : (a : ℕ) → a < 64 → get_or w a 0 ≡ get_or w (element l.size a) 0
  pub negated : (a : ℕ) → a < 64 → IsCode w l.size (get_or w (64 + a) 0)
  pub negated_padded : (a : ℕ) → a < 64 → get_or w (64 + a) 0 ≡ get_or w (64 + element l.size a) 0
  pub top_lt : l.top.0 < l.size
  pub top_is : (a : ℕ) → a < l.size → bit_and (get_or w a 0) (get_or w l.top.0 0) ≡ get_or w a 0
  pub bottom_lt : l.bottom.0 < l.size
  pub bottom_is : get_or w l.bottom.0 0 ≡ 0
