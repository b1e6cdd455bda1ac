-- What holds of a model part that is accepted, and which are. Rests on Reading, Places, theory's Part, Model and Test.
-- Here stand the definitions; the theorems are in proofs/Accepted.
--   Cell, cell: a place of n rows of w values is in a row and a column
use Rattle.std.specs.Prelude.{ℕ, ◌+◌, ◌*◌, ◌<◌, ◌≡◌}

-- place j of n rows of w values is in a row and a column
pub record Cell (j n w : ℕ) : Type 0 where
  pub row : ℕ
  pub column : ℕ
  pub row_lt : row < n
  pub column_lt : column < w
  pub is : row * w + column ≡ j
