-- Where the values of a model part stand, and that they are within it. Rests on theory's Part and Reading.
--   row_le: row q, of n rows of w values, ends within them
--   prod_le: a product of numbers at most a and b is at most a * b
--   label_at, transition_at: value i of a row is that of proposition i, or of the transition to state i
--   label_row-within, transition_row-within: a row ends within the part
use Rattle.std.specs.Prelude.{ℕ, ◌+◌, ◌*◌, ◌≤◌, ◌<◌, ◌≡◌, List, length, get_or}
use Rattle.std.proofs.Common.{add_assoc, suc-mul, mul-le-mul_right, mul-le-mul, arith}
use Rattle.theory.specs.Part.{model_of, ModelShape}
use Rattle.model.specs.Reading.{label_row, transition_row}

pub row_le : (q n w : ℕ) → q < n → q * w + w ≤ n * w
row_le q n w l = omega (arith, suc-mul q w, mul-le-mul_right w l)

pub prod_le : (x y a b : ℕ) → x ≤ a → y ≤ b → x * y ≤ a * b
prod_le x y a b l m = mul-le-mul {n₂ = a} {m₂ = b} l m

pub label_at : (b : List ℕ) (q row i : ℕ) → row ≡ label_row b q → get_or b (row + i) 0 ≡ (model_of b).label q i
label_at b q row i e = rw (e, add_assoc)

pub transition_at : (b : List ℕ) (q row i : ℕ) → row ≡ transition_row b q → get_or b (row + i) 0 ≡ (model_of b).transition q i
transition_at b q row i e = rw (e, add_assoc)

pub label_row-within : (b : List ℕ) (q : ℕ) → ModelShape b → q < get_or b 0 0 → label_row b q + get_or b 1 0 ≤ length b
label_row-within b q s l = omega (arith, s.exact, row_le q (get_or b 0 0) (get_or b 1 0) l)

pub transition_row-within : (b : List ℕ) (q : ℕ) → ModelShape b → q < get_or b 0 0 → transition_row b q + get_or b 0 0 ≤ length b
transition_row-within b q s l = omega (arith, s.exact, row_le q (get_or b 0 0) (get_or b 0 0) l)
