-- A question reads a table only at the pairs of states. Rests on View, Refused, Perform, theory's Rounds, Share and Loop, rounds' Round.
-- Here stand the definitions; the theorems are in proofs/ViewLaws.
--   SameView: views that agree at the pairs of states
use Rattle.std.specs.Prelude.{◌≡◌}
use Rattle.theory.specs.Simulation.{SameTable}
use Rattle.desk.specs.Case.{ops, model1, model2}
use Rattle.desk.specs.View.{View}

-- the same content, round and settled, and the same entries at the pairs of states
pub record SameView (v w : View) : Type 0 where
  pub holds_same : v.holds ≡ w.holds
  pub round_same : v.round ≡ w.round
  pub settled_same : v.settled ≡ w.settled
  pub entries_same : SameTable (ops w.holds) (model1 w.holds) (model2 w.holds) v.shown w.shown
