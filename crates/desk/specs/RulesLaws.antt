-- The tests of refusals 11, 12 and those after 12 say what their rules say. Rests on Refused and casefile's Reading.
-- Here stand the definitions; the theorems are in proofs/RulesLaws.
--   Long, long-enough, long_not_short: the lengths of a desk to which 11 does not apply
use Rattle.std.specs.Prelude.{◌≤◌, ◌≡◌, List, [], ◌∷◌, length}
use Rattle.refusal.specs.declared.Refusal.{Refusal}
use Rattle.desk.specs.Desk.{Desk}
use Rattle.desk.specs.Refused.{Condition, refusal_of}

pub record Long (d : Desk) : Type 0 where
  pub store_long : 24576 ≤ length d.store
  pub first_long : 4096 ≤ length d.first
  pub second_long : 4096 ≤ length d.second

-- The order of conditions with one refusal does not show: it is given exactly when not all of them hold.
abbrev pub AllGive : Refusal → List Condition → Type 0
AllGive r [] = Unit {0}
AllGive r (x ∷ xs) = (refusal_of x ≡ r) × AllGive r xs
