-- What the standing is after s accepted steps, from the invariant of demand 3. Rests on Stands, Case, Moved and Run.
-- Here stand the definitions; the theorems are in proofs/Position.
--   Position: round, next row, settled, lowerings, and the answer that they give; position: the invariant gives it
use Rattle.std.specs.Prelude.{ℕ, ◌%◌, ◌<◌, ◌≡◌, true, ◌↔◌, eqb}
use Rattle.casefile.specs.Reading.{Content}
use Rattle.desk.specs.Desk.{Standing}
use Rattle.desk.specs.Case.{N1}
use Rattle.desk.specs.Moved.{step_answer}
use Rattle.desk.specs.Run.{round_after, lowerings_after, answer_after}

-- what follows of round, next row, settled and lowerings, and the answer that they give
pub record Position (c : Content) (T s : ℕ) (x : Standing) : Type 0 where
  pub round_is : x.round ≡ round_after c T s
  pub row_below_T : round_after c T s < T → x.row ≡ s % N1 c
  pub row_at_T : round_after c T s ≡ T → x.row ≡ 0
  pub settled_exactly : (x.settled ≡ true) ↔ (round_after c T s ≡ T)
  pub settled_is : x.settled ≡ eqb (round_after c T s) T
  pub lowerings_are : x.lowerings ≡ lowerings_after c T s
  pub answer_is : step_answer x ≡ answer_after c T s
