-- 'Table bytes past N1·N2 and store bytes past 24,576 are never written', and no buffer changes its length. Rests on RefusedLaws, Moved,
-- theory's Written.
-- Here stand the definitions; the theorems are in proofs/Unwritten.
--   SameFrom, Unwritten: what is unchanged of a buffer, and of the buffers of a desk
use Rattle.std.specs.Prelude.{ℕ, ◌≤◌, ◌≡◌, List, length, get_or}
use Rattle.desk.specs.Desk.{Desk}

-- a buffer of the same length, with the same bytes from place n on
pub record SameFrom (n : ℕ) (after before : List ℕ) : Type 0 where
  pub same_length : length after ≡ length before
  pub same_bytes : (i : ℕ) → n ≤ i → get_or after i 0 ≡ get_or before i 0

-- the buffers of the desk after, beside those of the desk before, where the tables have n entries
pub record Unwritten (n : ℕ) (after before : Desk) : Type 0 where
  pub store_same : SameFrom 24576 after.store before.store
  pub first_same : SameFrom n after.first before.first
  pub second_same : SameFrom n after.second before.second
