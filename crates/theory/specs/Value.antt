-- The value of a formula at a state and on a whole model. Rests on Lattice, Model, Formula.
--   ToElements, SameMap, AtMostMap: maps from states to elements, and two maps at the states
--   LeastFixpoint, GreatestFixpoint: the least and the greatest map that a body sends to itself
--   all_next, some_next: AX and EX; eval: the value at a state, with a count of applications (iterate, bind, enough)
--   value_at, whole_value: the value of a closed formula at a state, and on a whole model
use Rattle.std.specs.Prelude.{ℕ, zero, suc, ◌*◌, ◌-◌, ◌<◌, ◌≡◌}
use Rattle.theory.specs.Lattice.{Ops, AtMost, Element, imp, big_meet, big_join}
use Rattle.theory.specs.Model.{Model}
use Rattle.theory.specs.Formula.{Formula, bottom, top, prop, negated, var, or, and, AX, EX, mu, nu}

-- g applied t times
unfoldable pub iterate {ℓ} : {X : Type ℓ} → ℕ → (X → X) → X → X
iterate zero g x = x
iterate (suc t) g x = g (iterate t g x)

-- An environment gives each variable's map from states to values; `bind m env` is env under one more binder, whose map is m.
unfoldable pub bind : {A : Type 0} → (ℕ → A) → (ℕ → ℕ → A) → ℕ → ℕ → A
bind m env zero = m
bind m env (suc v) = env v

-- ---- least and greatest fixpoints

module _ {A : Type 0} (O : Ops A) (M : Model A) where
  -- a map from states to elements
  abbrev pub ToElements : (ℕ → A) → Type 0
  ToElements x = (q : ℕ) → q < M.states → Element O (x q)

  -- two maps agree at the states; the first is at or below the second there
  abbrev pub SameMap : (ℕ → A) → (ℕ → A) → Type 0
  SameMap x y = (q : ℕ) → q < M.states → x q ≡ y q

  abbrev pub AtMostMap : (ℕ → A) → (ℕ → A) → Type 0
  AtMostMap x y = (q : ℕ) → q < M.states → AtMost O (x q) (y q)

  -- 'the least map from states to elements that its body sends to itself', g being the body
  pub record LeastFixpoint (g : (ℕ → A) → ℕ → A) (x : ℕ → A) : Type 0 where
    pub elements : ToElements x
    pub fixed : SameMap (g x) x
    pub least : (y : ℕ → A) → ToElements y → SameMap (g y) y → AtMostMap x y

  -- 'the greatest likewise'
  pub record GreatestFixpoint (g : (ℕ → A) → ℕ → A) (x : ℕ → A) : Type 0 where
    pub elements : ToElements x
    pub fixed : SameMap (g x) x
    pub greatest : (y : ℕ → A) → ToElements y → SameMap (g y) y → AtMostMap y x

module _ {A : Type 0} (O : Ops A) where
  -- 'AX f at q is the meet over all q' of (not R(q, q')) joined with f(q')'
  unfoldable pub all_next : Model A → (ℕ → A) → ℕ → A
  all_next M f q = big_meet O M.states (λ q'. imp O (M.transition q q') (f q'))

  -- 'EX f is the join of R(q, q') met with f(q')'
  unfoldable pub some_next : Model A → (ℕ → A) → ℕ → A
  some_next M f q = big_join O M.states (λ q'. O.meet (M.transition q q') (f q'))

  -- The value at a state: 'or is join, and is meet'. A fixpoint is its body applied K times, from all bottom (least) or all
  -- top (greatest). Calculus.antt says what a value is without K, and from K = states * (n - 1) on this is it.
  unfoldable pub eval : Model A → ℕ → Formula → (ℕ → ℕ → A) → ℕ → A
  unfolding all_next some_next iterate bind
  eval M K bottom env q = O.bot
  eval M K top env q = O.top
  eval M K (prop p) env q = M.label q p
  eval M K (negated p) env q = O.neg (M.label q p)
  eval M K (var v) env q = env v q
  eval M K (or f g) env q = O.join (eval M K f env q) (eval M K g env q)
  eval M K (and f g) env q = O.meet (eval M K f env q) (eval M K g env q)
  eval M K (AX f) env q = all_next M (eval M K f env) q
  eval M K (EX f) env q = some_next M (eval M K f env) q
  eval M K (mu f) env q = iterate K (λ m. eval M K f (bind m env)) (λ r. O.bot) q
  eval M K (nu f) env q = iterate K (λ m. eval M K f (bind m env)) (λ r. O.top) q

  -- enough applications of a body on M
  abbrev pub enough : Model A → ℕ
  enough M = M.states * (O.size - 1)

  -- the value of a closed formula at a state
  unfoldable pub value_at : Model A → Formula → ℕ → A
  value_at M f q = eval M (enough M) f (λ v r. O.bot) q

  -- 'A formula's value on a whole model is the meet over q of Q0(q) → value at q, Q0 being the initial values'
  unfoldable pub whole_value : Model A → Formula → A
  unfolding value_at
  whole_value M f = big_meet O M.states (λ q. imp O (M.initial q) (value_at M f q))
