-- The worked examples of document 01 that are marked as proved, with the shares of request 101, what request 106 has to ask of a formula, and some more, in
-- one list, each as a statement. Rests on Part, Simulation, Value, Lists.
--   Example, ExampleHolds: what an example says, over lattices and models given by the bytes of their parts (part_ops, entries)
--   L1, L2, L3, subsets: the lattices; middle_P, loop2, still2, loop3, still3, step_p, step_no_P, later_P, loop_no_P, branches, reaches, only: the
--     models
--   example1 .. example6 (with the tables ones_of), table1, reported, whole_bound: the examples; examples: all of them
use Rattle.std.specs.Prelude.{ℕ, zero, suc, ◌≡◌, false, List, [], ◌∷◌, ◌++◌, ltb, length, get_or}
use Rattle.theory.specs.Lattice.{Ops, imp}
use Rattle.theory.specs.Formula.{Formula, bottom, top, prop, negated, var, and, AX, EX, nu, nested_AX}
use Rattle.theory.specs.Value.{value_at, whole_value}
use Rattle.theory.specs.Simulation.{round, FirstUnchanged, score, indicator, share}
use Rattle.theory.specs.Part.{is_meet, is_join, meet_of, join_of, top_of, bot_of, element, ops_of, explicit_part, model_of}
use Rattle.theory.specs.Test.{all_below, first_below}
use Rattle.theory.specs.Lists.{tab}

-- ---- what an example says; lattices and models are given by the bytes of their parts

-- the lattice of a part's bytes
unfoldable pub part_ops : List ℕ → Ops ℕ
unfolding meet_of join_of top_of bot_of is_meet is_join element all_below first_below
part_ops l = ops_of (explicit_part l)

-- the N₁·N₂ entries of a table, row by row
abbrev pub entries : (ℕ → ℕ → ℕ) → ℕ → ℕ → List ℕ
entries S zero n = []
entries S (suc m) n = entries S m n ++ tab (S m) n 0

pub data Example : Type 0 where
  -- round r of two models over a lattice has these entries
  round_is : (lattice model₁ model₂ : List ℕ) (r : ℕ) (table : List ℕ) → Example
  -- T of two models over a lattice
  settles_at : (lattice model₁ model₂ : List ℕ) (T : ℕ) → Example
  -- the value of a formula at a state
  value_is : (lattice model : List ℕ) (φ : Formula) (q v : ℕ) → Example
  -- the nested AX of a formula
  nested_is : (φ : Formula) (n : ℕ) → Example
  -- the entry of round r at a pair is not at most 'not the formula's value in model 2, joined with its value in model 1'
  exceeds : (lattice model₁ model₂ : List ℕ) (r : ℕ) (φ : Formula) (q₁ q₂ : ℕ) → Example
  -- the value of a formula on a whole model, and the score of round r
  whole_is : (lattice model : List ℕ) (φ : Formula) (v : ℕ) → Example
  score_is : (lattice model₁ model₂ : List ℕ) (r v : ℕ) → Example
  -- the score of round r is not at most 'not the formula's whole value on model a, joined with its whole value on model b'
  score_exceeds : (lattice model₁ model₂ : List ℕ) (r : ℕ) (φ : Formula) (a b : List ℕ) → Example
  -- the share of a table's entries at or above an element
  share_is : (lattice table : List ℕ) (l share : ℕ) → Example

abbrev pub ExampleHolds : Example → Type 0
ExampleHolds (round_is l m₁ m₂ r t) = entries (round (part_ops l) (model_of m₁) (model_of m₂) r) (model_of m₁).states (model_of m₂).states ≡ t
ExampleHolds (settles_at l m₁ m₂ T) = FirstUnchanged (part_ops l) (model_of m₁) (model_of m₂) T
ExampleHolds (value_is l m φ q v) = value_at (part_ops l) (model_of m) φ q ≡ v
ExampleHolds (nested_is φ n) = nested_AX φ ≡ n
ExampleHolds (exceeds l m₁ m₂ r φ q₁ q₂) =
    (part_ops l).at_most (round (part_ops l) (model_of m₁) (model_of m₂) r q₁ q₂) (imp (part_ops l) (value_at (part_ops l) (model_of m₂) φ q₂) (value_at (part_ops l) (model_of m₁) φ q₁)) ≡ false
ExampleHolds (whole_is l m φ v) = whole_value (part_ops l) (model_of m) φ ≡ v
ExampleHolds (score_is l m₁ m₂ r v) = score (part_ops l) (model_of m₁) (model_of m₂) (round (part_ops l) (model_of m₁) (model_of m₂) r) ≡ v
ExampleHolds (score_exceeds l m₁ m₂ r φ a b) =
    (part_ops l).at_most (score (part_ops l) (model_of m₁) (model_of m₂) (round (part_ops l) (model_of m₁) (model_of m₂) r)) (imp (part_ops l) (whole_value (part_ops l) (model_of a) φ) (whole_value (part_ops l) (model_of b) φ)) ≡ false
ExampleHolds (share_is l t a s) = share (part_ops l) (length t) (λ i. get_or t i 0) a ≡ s

-- ---- the lattices: 'L2 is 0 below 1; L3 is 0 below 1 below 2 with not-1 = 1', one element, and the subsets of {a, b, c}

abbrev pub L1 : List ℕ
L1 = 1 ∷ 0 ∷ 1 ∷ []

abbrev pub L2 : List ℕ
L2 = 2 ∷ 1 ∷ 0 ∷ 1 ∷ 1 ∷ 0 ∷ 1 ∷ []

abbrev pub L3 : List ℕ
L3 = 3 ∷ 2 ∷ 1 ∷ 0 ∷ 1 ∷ 1 ∷ 1 ∷ 0 ∷ 1 ∷ 1 ∷ 0 ∷ 0 ∷ 1 ∷ []

-- a subset is the sum of 1 for a, 2 for b and 4 for c
abbrev pub subsets : List ℕ
subsets = 8 ∷ 7 ∷ 6 ∷ 5 ∷ 4 ∷ 3 ∷ 2 ∷ 1 ∷ 0 ∷ 1 ∷ 1 ∷ 1 ∷ 1 ∷ 1 ∷ 1 ∷ 1 ∷ 1 ∷ 0 ∷ 1 ∷ 0 ∷ 1 ∷ 0 ∷ 1 ∷ 0 ∷ 1 ∷ 0 ∷ 0 ∷ 1 ∷ 1 ∷ 0 ∷ 0 ∷ 1 ∷ 1 ∷ 0 ∷ 0 ∷ 0 ∷ 1 ∷ 0 ∷ 0 ∷ 0 ∷ 1 ∷ 0 ∷ 0 ∷ 0 ∷ 0 ∷ 1 ∷ 1 ∷ 1 ∷ 1 ∷ 0 ∷ 0 ∷ 0 ∷ 0 ∷ 0 ∷ 1 ∷ 0 ∷ 1 ∷ 0 ∷ 0 ∷ 0 ∷ 0 ∷ 0 ∷ 0 ∷ 1 ∷ 1 ∷ 0 ∷ 0 ∷ 0 ∷ 0 ∷ 0 ∷ 0 ∷ 0 ∷ 1 ∷ []

-- ---- the models, each by the bytes of its part

-- one state; p = 1, the middle element of L3; no transition
abbrev pub middle_P : List ℕ
middle_P = 1 ∷ 1 ∷ 2 ∷ 1 ∷ 0 ∷ []

-- one state, no propositions, and a loop of value 1, over L2 and over L3; the same with no transition
abbrev pub loop2 : List ℕ
loop2 = 1 ∷ 0 ∷ 1 ∷ 1 ∷ []

abbrev pub still2 : List ℕ
still2 = 1 ∷ 0 ∷ 1 ∷ 0 ∷ []

abbrev pub loop3 : List ℕ
loop3 = 1 ∷ 0 ∷ 2 ∷ 1 ∷ []

abbrev pub still3 : List ℕ
still3 = 1 ∷ 0 ∷ 2 ∷ 0 ∷ []

-- two states, a transition from 0 to 1; p = 0, 1 in the first and 0, 0 in the second
abbrev pub step_p : List ℕ
step_p = 2 ∷ 1 ∷ 1 ∷ 0 ∷ 0 ∷ 1 ∷ 0 ∷ 1 ∷ 0 ∷ 0 ∷ []

abbrev pub step_no_P : List ℕ
step_no_P = 2 ∷ 1 ∷ 1 ∷ 0 ∷ 0 ∷ 0 ∷ 0 ∷ 1 ∷ 0 ∷ 0 ∷ []

-- three states, transitions from 0 to 1 and from 1 to 2; p = 0, 0, 1
abbrev pub later_P : List ℕ
later_P = 3 ∷ 1 ∷ 1 ∷ 0 ∷ 0 ∷ 0 ∷ 0 ∷ 1 ∷ 0 ∷ 1 ∷ 0 ∷ 0 ∷ 0 ∷ 1 ∷ 0 ∷ 0 ∷ 0 ∷ []

-- one state with a loop; p = 0
abbrev pub loop_no_P : List ℕ
loop_no_P = 1 ∷ 1 ∷ 1 ∷ 0 ∷ 1 ∷ []

-- example 1 of 000: three states; p is {a, b}, {b} and {b, c}; from q0 a transition of {b, c} to each of the others
abbrev pub branches : List ℕ
branches = 3 ∷ 1 ∷ 7 ∷ 0 ∷ 0 ∷ 3 ∷ 2 ∷ 6 ∷ 0 ∷ 6 ∷ 6 ∷ 0 ∷ 0 ∷ 0 ∷ 0 ∷ 0 ∷ 0 ∷ []

-- example 1 of 000 with transitions of {a, b, c} from q1 and from q2 to q1, which give Table 1 of 000; the text leaves them to a figure
abbrev pub reaches : List ℕ
reaches = 3 ∷ 1 ∷ 7 ∷ 0 ∷ 0 ∷ 3 ∷ 2 ∷ 6 ∷ 0 ∷ 6 ∷ 6 ∷ 0 ∷ 7 ∷ 0 ∷ 0 ∷ 7 ∷ 0 ∷ []

-- νz.p∧AXz
abbrev pub always : Formula
always = nu (and (prop 0) (AX (var 0)))

-- νz.¬p∧AXz
abbrev pub never_P : Formula
never_P = nu (and (negated 0) (AX (var 0)))

-- one state over one element
abbrev pub only : List ℕ
only = 1 ∷ 0 ∷ 0 ∷ 0 ∷ []

-- ---- the examples, by their numbers in document 01

-- 'L3, both models one state, p = 1, no transitions: entry 1, T = 2.'
abbrev pub example1 : List Example
example1 = round_is L3 middle_P middle_P 2 (1 ∷ []) ∷ settles_at L3 middle_P middle_P 2 ∷ []

-- 'L2, no propositions; model 1 loops at 1, model 2 has no transition: entry 0, T = 2. Models exchanged: entry 1, T = 1.'
abbrev pub example2 : List Example
example2 =
    round_is L2 loop2 still2 2 (0 ∷ []) ∷ settles_at L2 loop2 still2 2
    ∷ round_is L2 still2 loop2 1 (1 ∷ []) ∷ settles_at L2 still2 loop2 1 ∷ []

-- 'L3, no propositions; model 1 loops at 1, model 2 has no transition: entry 1.' T, which the example leaves open, is 2.
abbrev pub example3 : List Example
example3 = round_is L3 loop3 still3 2 (1 ∷ []) ∷ settles_at L3 loop3 still3 2 ∷ []

-- 'L2; model 1: 0 to 1, p = 0, 1; model 2: 0 to 1, p = 0, 0. Round 1 is 1 0 / 0 0, round 2 all 0, T = 3. AX of not-p has value 1 at
-- state 0 of model 2 and 0 in model 1, so round 1 does not bound it.' It has 1 nested AX: fewer than r is needed, r is too many.
abbrev pub example4 : List Example
example4 =
    round_is L2 step_p step_no_P 1 (1 ∷ 0 ∷ 0 ∷ 0 ∷ []) ∷ round_is L2 step_p step_no_P 2 (0 ∷ 0 ∷ 0 ∷ 0 ∷ []) ∷ settles_at L2 step_p step_no_P 3
    ∷ value_is L2 step_no_P (AX (negated 0)) 0 1 ∷ value_is L2 step_p (AX (negated 0)) 0 0
    ∷ exceeds L2 step_p step_no_P 1 (AX (negated 0)) 0 0 ∷ nested_is (AX (negated 0)) 1 ∷ []

-- 'Subsets of {a, b, c}; from q0 two transitions of {b, c}, p there {b} and {b, c}: AX p at q0 is {a, b}, EX p is {b, c}'
abbrev pub example5 : List Example
example5 = value_is subsets branches (AX (prop 0)) 0 3 ∷ value_is subsets branches (EX (prop 0)) 0 6 ∷ []

-- a table of t entries, the first c of them 1 and the rest 0
abbrev pub ones_of : ℕ → ℕ → List ℕ
ones_of c t = tab (λ i. indicator (ltb i c)) t 0

-- 'One element, n = 1: T = 1.' For all models: T-of-one-element in Rounds. '1 entry in 8 becomes 12, 3 in 8 stay 38' (request 101).
-- Four more exact halves: 62.5, 87.5, 0.5 and 1.5 per cent go to 62, 88, 0 and 2.
abbrev pub example6 : List Example
example6 =
    settles_at L1 only only 1
    ∷ share_is L2 (ones_of 1 8) 1 12 ∷ share_is L2 (ones_of 3 8) 1 38 ∷ share_is L2 (ones_of 5 8) 1 62 ∷ share_is L2 (ones_of 7 8) 1 88
    ∷ share_is L2 (ones_of 1 200) 1 0 ∷ share_is L2 (ones_of 3 200) 1 2 ∷ []

-- Table 1 of 000: νz.p∧AXz is {a, b}, {b} and {b}
abbrev pub table1 : List Example
table1 = value_is subsets reaches always 0 3 ∷ value_is subsets reaches always 1 2 ∷ value_is subsets reaches always 2 2 ∷ []

-- what report prints for example 1 with formula p: score 1, and whole value 1 on both models
abbrev pub reported : List Example
reported = score_is L3 middle_P middle_P 2 1 ∷ whole_is L3 middle_P (prop 0) 1 ∷ []

-- request 106: scores that are not at most the bound, where one condition is missing. AX of not-p at round 1 of example 4: as many nested AX as r.
-- νz.¬p∧AXz, which has 1, at round 2, T being 4: a fixpoint. EX of top at T of example 2 exchanged: EX. There too AX of bottom, with the models exchanged in
-- the bound.
abbrev pub whole_bound : List Example
whole_bound =
    score_exceeds L2 step_p step_no_P 1 (AX (negated 0)) step_no_P step_p
    ∷ settles_at L2 later_P loop_no_P 4 ∷ nested_is never_P 1 ∷ score_exceeds L2 later_P loop_no_P 2 never_P loop_no_P later_P
    ∷ score_exceeds L2 still2 loop2 1 (EX top) loop2 still2
    ∷ score_exceeds L2 still2 loop2 1 (AX bottom) still2 loop2 ∷ []

abbrev pub examples : List (List Example)
examples = example1 ∷ example2 ∷ example3 ∷ example4 ∷ example5 ∷ example6 ∷ table1 ∷ reported ∷ whole_bound ∷ []
