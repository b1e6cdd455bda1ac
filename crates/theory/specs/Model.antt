-- Latticed Kripke structures. Rests on Lattice.
--   Model: a structure: states, propositions, initial values, a value of each proposition at each state, transition values
--   Valued: its values are elements of a lattice
use Rattle.std.specs.Prelude.{ℕ, ◌<◌}
use Rattle.theory.specs.Lattice.{Ops, Element}

-- A latticed Kripke structure (000, section 2: states, initial values Q0, transition values R, a value of each proposition at
-- each state). States are the numbers below `states`, propositions those below `propositions`. No successor is demanded.
pub record Model (A : Type 0) : Type 0 where
  -- N
  pub states : ℕ
  -- k
  pub propositions : ℕ
  -- Q0(q)
  pub initial : ℕ → A
  -- the value of proposition p at state q
  pub label : ℕ → ℕ → A
  -- R(q, q')
  pub transition : ℕ → ℕ → A

-- 'Every value is an element.'
pub record Valued {A : Type 0} (O : Ops A) (M : Model A) : Type 0 where
  pub initial_element : (q : ℕ) → q < M.states → Element O (M.initial q)
  pub label_element : (q : ℕ) → q < M.states → (p : ℕ) → p < M.propositions → Element O (M.label q p)
  pub transition_element : (q : ℕ) → q < M.states → (r : ℕ) → r < M.states → Element O (M.transition q r)
