-- Lattices given by an order and a complement, and the reading of lattice and model parts from bytes. Rests on Lattice, Model, Test.
--   LatticePart, ops_of: what a lattice part says, and the operations that it gives
--   is_meet, is_join, meet_of, join_of, top_of, bot_of: meets, joins, top and bottom, found from the order; element: any number read as an element
--   explicit_part, model_of: the lattice and the model of a part's bytes
--   model_length, ModelShape: how many bytes a model part has, and that its sizes and its length are as they must be
use Rattle.std.specs.Prelude.{ℕ, ◌+◌, ◌*◌, ◌%◌, ◌≤◌, ◌<◌, ◌≡◌, Bool, cond, ◌&&◌, List, ltb, eqb, length, get_or}
use Rattle.theory.specs.Lattice.{Ops}
use Rattle.theory.specs.Model.{Model}
use Rattle.theory.specs.Test.{all_below, first_below, ◌⇒◌}

-- what a lattice part says: n elements, numbered from 0; the complement of each; whether element i is at or below element j
pub record LatticePart : Type 0 where
  pub size : ℕ
  pub complement : ℕ → ℕ
  pub order : ℕ → ℕ → Bool

module _ (P : LatticePart) where
  -- m is at or below a and b, and at or above every element that is
  unfoldable pub is_meet : ℕ → ℕ → ℕ → Bool
  is_meet a b m = P.order m a && P.order m b && all_below P.size (λ c. P.order c a ⇒ P.order c b ⇒ P.order c m)

  unfoldable pub is_join : ℕ → ℕ → ℕ → Bool
  is_join a b m = P.order a m && P.order b m && all_below P.size (λ c. P.order a c ⇒ P.order b c ⇒ P.order m c)

  -- the meet and the join of two elements, found from the order; n where there is none
  unfoldable pub meet_of : ℕ → ℕ → ℕ
  meet_of a b = first_below P.size (is_meet a b)

  unfoldable pub join_of : ℕ → ℕ → ℕ
  join_of a b = first_below P.size (is_join a b)

  -- the element at or above all, and the one at or below all
  unfoldable pub top_of : ℕ
  top_of = first_below P.size (λ a. all_below P.size (λ b. P.order b a))

  unfoldable pub bot_of : ℕ
  bot_of = first_below P.size (λ a. all_below P.size (λ b. P.order a b))

-- Any number reads as an element of a lattice of n: its remainder by 64 where that is one, else element 0. An element reads as
-- itself, where n is at most 64. So a lookup in a table 64 wide is right for every byte, and no limit has to be stated.
unfoldable pub element : ℕ → ℕ → ℕ
element n a = cond (ltb (a % 64) n) (a % 64) 0

-- the lattice of a part
abbrev pub ops_of : LatticePart → Ops ℕ
ops_of P =
    record {
      size = P.size;
      is_element = λ a. ltb a P.size;
      at_most = λ a b. P.order (element P.size a) (element P.size b);
      meet = λ a b. meet_of P (element P.size a) (element P.size b);
      join = λ a b. join_of P (element P.size a) (element P.size b);
      neg = λ a. P.complement (element P.size a);
      top = top_of P;
      bot = bot_of P;
    }

-- 'A lattice part is n (1 to 64), then n complement bytes, then n·n order bytes. Byte i·n + j of the order is 1 if element i is
-- at or below element j, else 0.'
abbrev pub explicit_part : List ℕ → LatticePart
explicit_part b =
    record {
      size = get_or b 0 0;
      complement = λ a. get_or b (1 + a) 0;
      order = λ i j. eqb (get_or b (1 + get_or b 0 0 + (i * get_or b 0 0 + j)) 0) 1;
    }

-- 'A model part is N states (1 to 64), k propositions (0 to 16), N initial values, N·k proposition values (state by state), N·N
-- transition values (row of the state left).'
abbrev pub model_of : List ℕ → Model ℕ
model_of b =
    record {
      states = get_or b 0 0;
      propositions = get_or b 1 0;
      initial = λ q. get_or b (2 + q) 0;
      label = λ q p. get_or b (2 + get_or b 0 0 + (q * get_or b 1 0 + p)) 0;
      transition = λ q r. get_or b (2 + get_or b 0 0 + get_or b 0 0 * get_or b 1 0 + (q * get_or b 0 0 + r)) 0;
    }

-- how many bytes a model part of N states and k propositions has
abbrev pub model_length : ℕ → ℕ → ℕ
model_length N k = 2 + N + N * k + N * N

-- the sizes and the length of a model part are as they must be
pub record ModelShape (b : List ℕ) : Type 0 where
  pub some : 0 < get_or b 0 0
  pub states_most : get_or b 0 0 ≤ 64
  pub propositions_most : get_or b 1 0 ≤ 16
  pub exact : length b ≡ model_length (get_or b 0 0) (get_or b 1 0)
