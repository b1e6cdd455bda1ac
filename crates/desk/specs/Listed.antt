-- Lists of calls, and the invariant of demand 3 after them. Rests on Run, RefusedLaws, Stands, Stepping, Next.
-- Here stand the definitions; the theorems are in proofs/Listed.
--   Since, since: after a list with no accepted opening the invariant holds, and each accepted step answered what it says
use Rattle.std.specs.Prelude.{ℕ, suc, ◌+◌, ◌<◌, ◌≡◌, length, get_or}
use mathlib.Core.List.{List}
use Rattle.casefile.specs.Reading.{Content}
use Rattle.desk.specs.Desk.{Desk, Reply}
use Rattle.desk.specs.Run.{answer_after}
use Rattle.desk.specs.Stands.{Stands}

pub record Since (c : Content) (T s : ℕ) (answers : List Reply) (d : Desk) : Type 0 where
  pub stands : Stands c T (s + length answers) d
  -- no answer is missing, for which Opened would stand
  pub each : (i : ℕ) → i < length answers → get_or answers i Reply.Opened ≡ answer_after c T (s + suc i)
