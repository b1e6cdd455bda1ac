-- The words that the functions write, for those that come in pairs by a Bool, which says which. w is a lattice's codes; a map is the list of
-- the codes of its values. Rests on theory's Lists, Loop and Part, elements' Words.
--   map_words: how many words a map has
--   join_or_meet_code, start_code: or and and, where the least fixpoint and the greatest start
--   all_next_code, some_next_code, first_code, step_code, next_code: AX and EX at a state
--   slot_of: the map of a variable
--   Literals, Combined, NextMap: the first words of a map are those of a proposition, of or or and, of AX or EX
use Rattle.std.specs.Prelude.{ℕ, Bool, cond, List, eqb, get_or}
use Rattle.std.specs.Int.Bits.{bit_and, bit_or}
use Rattle.theory.specs.Lists.{Filled}
use Rattle.theory.specs.Loop.{fold}
use Rattle.theory.specs.Part.{model_of}
use Rattle.elements.specs.Words.{code_in, negated_code_in, value_code}
use Rattle.elements.specs.declared.Lattice.{Lattice}

-- how many words a map has
abbrev pub map_words : ℕ
map_words = 64

-- 'or is join, and is meet': | where `up`, else &
unfoldable pub join_or_meet_code : Bool → ℕ → ℕ → ℕ
join_or_meet_code up x y = cond up (bit_or x y) (bit_and x y)

-- a least fixpoint starts from bottom, whose code is 0, a greatest one from top
unfoldable pub start_code : List ℕ → Lattice → Bool → ℕ
start_code w l least = cond least 0 (code_in w l.top.0)

-- AX at q: 'the meet over all q' of (not R(q, q')) joined with f(q')', x being the map f; `top` is the code of the top
abbrev pub all_next_code : List ℕ → ℕ → List ℕ → List ℕ → ℕ → ℕ
all_next_code w top m x q = fold bit_and top (λ r. bit_or (negated_code_in w ((model_of m).transition q r)) (get_or x r 0)) (get_or m 0 0)

-- EX at q: 'the join of R(q, q') met with f(q')'
abbrev pub some_next_code : List ℕ → List ℕ → List ℕ → ℕ → ℕ
some_next_code w m x q = fold bit_or 0 (λ r. bit_and (code_in w ((model_of m).transition q r)) (get_or x r 0)) (get_or m 0 0)

-- where AX (all) or EX starts, and what a transition of value e to a state whose value has the code x gives to it
unfoldable pub first_code : ℕ → Bool → ℕ
first_code top all = cond all top 0

unfoldable pub step_code : Bool → List ℕ → ℕ → ℕ → ℕ
step_code all w e x = cond all (bit_or (negated_code_in w e) x) (bit_and (code_in w e) x)

-- AX (all), or EX
unfoldable pub next_code : List ℕ → ℕ → List ℕ → Bool → List ℕ → ℕ → ℕ
next_code w top m all x q = cond all (all_next_code w top m x q) (some_next_code w m x q)

-- The maps of three binders, the nearest one's first: variable v has that of the binder v binders further out.
unfoldable pub slot_of : List ℕ → List ℕ → List ℕ → ℕ → List ℕ
slot_of near mid far v = cond (eqb v 0) near (cond (eqb v 1) mid far)

-- ---- the first words of the map `out`

-- at the states of m, the code of proposition p or of its complement
abbrev pub Literals : List ℕ → List ℕ → Bool → ℕ → List ℕ → Type 0
Literals w m negated p out = Filled (λ q. value_code negated w ((model_of m).label q p)) (get_or m 0 0) out

-- the joins (up) or the meets of those of x and y
abbrev pub Combined : Bool → List ℕ → List ℕ → ℕ → List ℕ → Type 0
Combined up x y n out = Filled (λ q. join_or_meet_code up (get_or x q 0) (get_or y q 0)) n out

-- at the states of m, AX (all) or EX of the map x
abbrev pub NextMap : List ℕ → Lattice → List ℕ → Bool → List ℕ → List ℕ → Type 0
NextMap w l m all x out = Filled (next_code w (code_in w l.top.0) m all x) (get_or m 0 0) out
