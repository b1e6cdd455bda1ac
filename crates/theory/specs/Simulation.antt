-- The simulation operator F, its rounds, the first round that changes nothing, score, share and lowerings. Rests on Lattice, Model, Formula, Value.
--   proposition_part, successor_part, F: the operator on tables, and its two parts
--   AllPairs, SameTable, AtMostTable, Bounds: tables at the pairs of states
--   round, FirstUnchanged, Simulation, GreatestSimulation: the rounds, T, and the simulations; of any operator round_of, FirstUnchangedOf,
--     FixedBy, GreatestFixedBy
--   PostFixedBy: S at or below G(S), for any operator G
--   score; BoundsWhole: an element bounds the whole values of a formula; share, by indicator, count, goes_up and per_cent
--   lowerings, by sum and differing: the entries that differ from the round before, summed over rounds
use Rattle.std.specs.Prelude.{ℕ, zero, suc, ◌+◌, ◌*◌, ◌-◌, ◌/◌, ◌%◌, ◌<◌, ◌≡◌, Bool, true, false, not, ◌&&◌, ◌||◌, ltb, eqb}
use Rattle.theory.specs.Lattice.{Ops, AtMost, imp, iff, big_meet, big_join}
use Rattle.theory.specs.Model.{Model}
use Rattle.theory.specs.Formula.{Formula}
use Rattle.theory.specs.Value.{all_next, some_next, whole_value}

module _ {A : Type 0} (O : Ops A) (M₁ M₂ : Model A) where
  -- ---- F. Both models have the same propositions; those of model 1 are counted.

  -- 'the meet of p1 ↔ p2 over all propositions'
  unfoldable pub proposition_part : ℕ → ℕ → A
  proposition_part q₁ q₂ = big_meet O M₁.propositions (λ p. iff O (M₁.label q₁ p) (M₂.label q₂ p))

  -- 'over all q1', of R1(q1, q1') → the join over q2' of R2(q2, q2') met with S(q1', q2')'
  unfoldable pub successor_part : (ℕ → ℕ → A) → ℕ → ℕ → A
  unfolding all_next some_next
  successor_part S q₁ q₂ = all_next O M₁ (λ q₁'. some_next O M₂ (S q₁') q₂) q₁

  -- 'F sends a table S to the table whose entry (q1, q2) is the meet of' the two parts
  unfoldable pub F : (ℕ → ℕ → A) → ℕ → ℕ → A
  unfolding proposition_part successor_part
  F S q₁ q₂ = O.meet (proposition_part q₁ q₂) (successor_part S q₁ q₂)

  -- ---- tables, at the pairs of states

  abbrev pub AllPairs : (ℕ → ℕ → Type 0) → Type 0
  AllPairs P = (q₁ : ℕ) → q₁ < M₁.states → (q₂ : ℕ) → q₂ < M₂.states → P q₁ q₂

  -- table S equals table U; every entry of S is at or below that of U
  abbrev pub SameTable : (ℕ → ℕ → A) → (ℕ → ℕ → A) → Type 0
  SameTable S U = AllPairs (λ q₁ q₂. S q₁ q₂ ≡ U q₁ q₂)

  abbrev pub AtMostTable : (ℕ → ℕ → A) → (ℕ → ℕ → A) → Type 0
  AtMostTable S U = AllPairs (λ q₁ q₂. AtMost O (S q₁ q₂) (U q₁ q₂))

  -- every entry of S is at most 'not g at the pair's state of model 2, joined with f at the pair's state of model 1'
  abbrev pub Bounds : (ℕ → ℕ → A) → (ℕ → A) → (ℕ → A) → Type 0
  Bounds S f g = AtMostTable S (λ q₁ q₂. imp O (g q₂) (f q₁))

  -- ---- for any operator G on tables; F is the one that document 01 speaks of

  module _ (G : (ℕ → ℕ → A) → ℕ → ℕ → A) where
    -- 'Round 0 is all top; round r + 1 is F of round r.'
    unfoldable pub round_of : ℕ → ℕ → ℕ → A
    round_of zero q₁ q₂ = O.top
    round_of (suc r) q₁ q₂ = G (round_of r) q₁ q₂

    -- 'T is the least t above 0 for which round t equals round t − 1.'
    pub record FirstUnchangedOf (T : ℕ) : Type 0 where
      pub above0 : 0 < T
      pub unchanged : SameTable (round_of T) (round_of (T - 1))
      pub least : (t : ℕ) → 0 < t → t < T → SameTable (round_of t) (round_of (t - 1)) → ⊥

    -- S = G(S); and the greatest such: 'it meets their equation, and every other table that does lies at or below it'
    abbrev pub FixedBy : (ℕ → ℕ → A) → Type 0
    FixedBy S = SameTable S (G S)

    pub record GreatestFixedBy (S : ℕ → ℕ → A) : Type 0 where
      pub is_fixed : FixedBy S
      pub greatest : (U : ℕ → ℕ → A) → FixedBy U → AtMostTable U S

    -- 'S at or below F(S) everywhere' (request 104): S is a post-fixed point of G, which the request calls sound
    abbrev pub PostFixedBy : (ℕ → ℕ → A) → Type 0
    PostFixedBy S = AtMostTable S (G S)

  abbrev pub round : ℕ → ℕ → ℕ → A
  round = round_of F

  abbrev pub FirstUnchanged : ℕ → Type 0
  FirstUnchanged = FirstUnchangedOf F

  -- 'A table S is a simulation when S = F(S).'
  abbrev pub Simulation : (ℕ → ℕ → A) → Type 0
  Simulation = FixedBy F

  abbrev pub GreatestSimulation : (ℕ → ℕ → A) → Type 0
  GreatestSimulation = GreatestFixedBy F

  -- ---- score

  -- 'score is the meet over q1 of Q0(q1) → the join over q2 of Q0(q2) met with the shown entry'
  unfoldable pub score : (ℕ → ℕ → A) → A
  score S = big_meet O M₁.states (λ q₁. imp O (M₁.initial q₁) (big_join O M₂.states (λ q₂. O.meet (M₂.initial q₂) (S q₁ q₂))))

  -- 'at most "not the whole value on model 2, joined with the whole value on model 1"' (request 106), of an element, such as the score
  abbrev pub BoundsWhole : A → Formula → Type 0
  BoundsWhole e φ = AtMost O e (imp O (whole_value O M₂ φ) (whole_value O M₁ φ))

-- ---- share

abbrev pub indicator : Bool → ℕ
indicator true = 1
indicator false = 0

-- how many of f 0, .., f (n - 1) are true
unfoldable pub count : ℕ → (ℕ → Bool) → ℕ
count zero f = 0
count (suc n) f = count n f + indicator (f n)

-- whether a quotient q by t goes up by one, by its rest: where that is more than half of t, or is half of t and q is odd
abbrev pub goes_up : ℕ → ℕ → ℕ → Bool
goes_up t q rest = ltb t (2 * rest) || eqb (2 * rest) t && eqb (q % 2) 1

-- c of t 'rounded to whole per cent' (document 01), 'an exact half per cent to the even neighbour' (request 101): the quotient of 100 c by t,
-- and one more where that goes up. What it is without a quotient is proved in Share.
unfoldable pub per_cent : ℕ → ℕ → ℕ
per_cent c t = 100 * c / t + indicator (goes_up t (100 * c / t) (100 * c % t))

-- 'share is the per cent of shown entries at or above a given element'; the entries are S 0, .., S (n - 1)
unfoldable pub share : {A : Type 0} → Ops A → ℕ → (ℕ → A) → A → ℕ
unfolding count per_cent
share O n S l = per_cent (count n (λ i. O.at_most l (S i))) n

-- ---- lowerings (request 107), of m by n tables

-- f 0 + .. + f (n - 1)
unfoldable pub sum : ℕ → (ℕ → ℕ) → ℕ
sum zero f = 0
sum (suc n) f = sum n f + f n

-- how many entries of S do not pass a test beside those of U: where it tests for equality, in how many entries the two tables differ
unfoldable pub differing : {A : Type 0} → (A → A → Bool) → ℕ → ℕ → (ℕ → ℕ → A) → (ℕ → ℕ → A) → ℕ
unfolding sum count
differing same m n S U = sum m (λ q. count n (λ r. not (same (S q r) (U q r))))

-- 'the entries that differ from the round before, summed over the whole rounds': of the rounds 1 to t, where s 0, s 1, .. are the tables of the rounds
unfoldable pub lowerings : {A : Type 0} → (A → A → Bool) → ℕ → ℕ → (ℕ → ℕ → ℕ → A) → ℕ → ℕ
unfolding sum differing
lowerings same m n s t = sum t (λ i. differing same m n (s i) (s (suc i)))
