-- T is at most N1·N2 + 1, whatever the lattice's longest chain: which entries of round r + 1 a join-irreducible element is at or below depends
-- only on which entries of round r it is at or below, and each round has these among the ones before. For F, and for any operator like it.
-- Rests on Irreducible, Simulation, Descent, Height, Rounds; that the limit is attained, on Examples.
-- The definitions are in specs/Sharp.
--   T_sharp: T is at most N1·N2 + 1; sharp_attained: worked example 2 has that T; T-within-sharp: the limit for any operator like F
--   meet_preserves, join_preserves, all_next_preserves, some_next_preserves, F_preserves, preserves-mono, rounds-same: that F is such an operator, and its rounds
use Rattle.std.specs.Prelude.{ℕ, suc, ◌+◌, ◌*◌, ◌-◌, ◌≤◌, ◌<◌, ◌≡◌, refl, Bool, true, false, List, map, length}
use Rattle.std.proofs.Common.{sym, subst, ⊎_elim, sub-one, arith}
use Rattle.std.proofs.Math.Nat.{mul-one}
use Rattle.std.proofs.Math.Decide.{le_ind}
use Rattle.std.proofs.lemmas.List.{length-map}
use Rattle.theory.specs.Lattice.{Ops, Laws, AtMost, Element, Pairwise, imp, iff, big_meet, big_join}
use Rattle.theory.specs.Model.{Model}
use Rattle.theory.specs.Value.{all_next, some_next}
use Rattle.theory.specs.Simulation.{proposition_part, successor_part, F, round_of, SameTable, AtMostTable, FirstUnchangedOf, FirstUnchanged, indicator}
use Rattle.theory.specs.Test.{◌⇒◌, all_below, first_below}
use Rattle.theory.specs.TestLaws.{⇒-in, ⇒-elim}
use Rattle.theory.specs.Part.{is_meet, is_join, meet_of, join_of, top_of, bot_of, element, ops_of, explicit_part, model_of}
use Rattle.theory.specs.Folds.{big_meet_le, big_meet_glb, big_join_ge}
use Rattle.theory.specs.Finite.{First, all_image, pairwise_under}
use Rattle.theory.specs.Descent.{Preorder, Apart, Unlowered}
use Rattle.theory.proofs.Descent.{first-unlowered}
use Rattle.theory.specs.Height.{distinct_le}
use Rattle.theory.proofs.Rounds.{F_element, descend, rounds-element}
use Rattle.theory.specs.Irreducible.{JoinIrreducible}
use Rattle.theory.proofs.Irreducible.{below-join, below-big_join, dense}
use Rattle.theory.specs.Examples.{L2, loop2, still2}
use Rattle.theory.specs.ExamplesHold.{unchanged_test}
use Rattle.theory.proofs.ExamplesHold.{settles_by_test}
use Rattle.theory.specs.Sharp.{Preserves, PreservesTable, OperatorPreserves}

-- ---- a preorder of values, in which at most two are apart

indicator_lt : (p : Bool) → indicator p < 2
indicator_lt true = omega arith
indicator_lt false = omega arith

indicator_same : (p q : Bool) → indicator p ≡ indicator q → (p ⇒ q) ≡ true
indicator_same true true e = refl
indicator_same true false e = absurd (omega arith)
indicator_same false q e = refl

module _ {A : Type 0} (O : Ops A) (l : A) where
  abbrev preserves_test : A → A → Bool
  preserves_test a b = O.at_most l a ⇒ O.at_most l b

  preserves_in : (a b : A) → Preserves O l a b → preserves_test a b ≡ true
  preserves_in a b = ⇒-in (O.at_most l a) (O.at_most l b)

  preserves_out : (a b : A) → preserves_test a b ≡ true → Preserves O l a b
  preserves_out a b = ⇒-elim (O.at_most l a) (O.at_most l b)

  abbrev by_one : Preorder A
  by_one = record { test = preserves_test; rfl = λ a. preserves_in a a (λ e. e); trans = λ {a} {b} {c} p q. preserves_in a c (λ e. preserves_out b c q (preserves_out a b p e)) }

  apart_two : (s : List A) → Pairwise (Apart preserves_test) s → length s ≤ 2
  apart_two s c =
      rw length-map at
      (distinct_le 2 (map bit s) (all_image bit _ (λ a. indicator_lt (O.at_most l a)) s)
      (pairwise_under bit _ _ (λ a b w e. w.1 (indicator_same (O.at_most l a) (O.at_most l b) e, indicator_same (O.at_most l b) (O.at_most l a) (sym e))) s c))
    where
      bit : A → ℕ
      bit a = indicator (O.at_most l a)

-- ---- meet, join, AX, EX and F keep it

module _ {A : Type 0} {O : Ops A} (L : Laws O) {l : A} (j : JoinIrreducible O l) where
  pub meet_preserves : (a b c d : A) → Preserves O l a c → Preserves O l b d → Preserves O l (O.meet a b) (O.meet c d)
  meet_preserves a b c d p q w = L.meet_glb (p (L.trans w (L.meet_l a b))) (q (L.trans w (L.meet_r a b)))

  pub join_preserves : (a b c d : A) → Preserves O l a c → Preserves O l b d → Preserves O l (O.join a b) (O.join c d)
  join_preserves a b c d p q w = ⊎_elim (λ t. L.trans (p t) (L.join_l c d)) (λ t. L.trans (q t) (L.join_r c d)) (below-join L j a b w)

  module _ (M : Model A) (f g : ℕ → A) (h : (q : ℕ) → q < M.states → Preserves O l (f q) (g q)) (q : ℕ) where
    pub all_next_preserves : Preserves O l (all_next O M f q) (all_next O M g q)
    unfolding all_next imp
    all_next_preserves w = big_meet_glb L M.states _ l (λ r m. join_preserves _ _ _ _ (λ t. t) (h r m) (L.trans w (big_meet_le L M.states (λ r. imp O (M.transition q r) (f r)) r m)))

    pub some_next_preserves : Preserves O l (some_next O M f q) (some_next O M g q)
    unfolding some_next
    some_next_preserves w =
        let v = below-big_join L j M.states _ w in
        L.trans (meet_preserves _ _ _ _ (λ t. t) (h v.0 v.1) v.2) (big_join_ge L M.states (λ r. O.meet (M.transition q r) (g r)) v.0 v.1)

module _ {A : Type 0} {O : Ops A} (L : Laws O) (M₁ M₂ : Model A) where
  pub F_preserves : OperatorPreserves O M₁ M₂ (F O M₁ M₂)
  unfolding F successor_part
  F_preserves l j S U h q₁ q₂ = meet_preserves L j _ _ _ _ (λ t. t) (all_next_preserves L j M₁ _ _ (λ x a. some_next_preserves L j M₂ (S x) (U x) (h x a) q₂) q₁)

  -- ---- any operator that gives elements and keeps this

  module _ (G : (ℕ → ℕ → A) → ℕ → ℕ → A) (element : (S : ℕ → ℕ → A) (q₁ q₂ : ℕ) → Element O (G S q₁ q₂)) (preserves : OperatorPreserves O M₁ M₂ G) where
    pub preserves-mono : (S U : ℕ → ℕ → A) → AtMostTable O M₁ M₂ S U → (q₁ q₂ : ℕ) → AtMost O (G S q₁ q₂) (G U q₁ q₂)
    preserves-mono S U h q₁ q₂ = dense L _ _ (λ l j. preserves l j S U (λ x a y b w. L.trans w (h x a y b)) q₁ q₂) (element S q₁ q₂)

    abbrev K : ℕ
    K = M₁.states * M₂.states

    abbrev R : ℕ → ℕ → ℕ → A
    R = round_of O M₁ M₂ G

    -- from some round on, at N1·N2 at the latest, l is at or below the same entries in each
    rounds-preserve : (l : A) → JoinIrreducible O l → PreservesTable O M₁ M₂ l (R K) (R (suc K))
    unfolding round_of
    rounds-preserve l j = go (first-unlowered (by_one O l) 2 (apart_two O l) M₁.states M₂.states R (λ t q₁ a q₂ b. preserves_in O l _ _ (λ e. L.trans e (descend L M₁ M₂ G preserves-mono t q₁ q₂))))
      where
        go : (t : ℕ) × (t ≤ K * (2 - 1)) × First (Unlowered (preserves_test O l) M₁.states M₂.states R) t → PreservesTable O M₁ M₂ l (R K) (R (suc K))
        go w = le_ind (λ t. PreservesTable O M₁ M₂ l (R t) (R (suc t))) (λ q₁ a q₂ b. preserves_out O l _ _ (w.2.here q₁ a q₂ b)) (λ t m s q₁ a q₂ b. preserves l j _ _ s q₁ q₂) K (rw mul-one at w.1)

    -- the round after round N1·N2 equals it
    pub rounds-same : SameTable O M₁ M₂ (round_of O M₁ M₂ G (suc (M₁.states * M₂.states))) (round_of O M₁ M₂ G (M₁.states * M₂.states))
    rounds-same q₁ a q₂ b =
        let e : (r : ℕ) → Element O (R r q₁ q₂) = λ r. rounds-element L M₁ M₂ G preserves-mono element r q₁ q₂ in
        L.antisym (e (suc K)) (e K) (descend L M₁ M₂ G preserves-mono K q₁ q₂) (dense L _ _ (λ l j. rounds-preserve l j q₁ a q₂ b) (e K))

    pub T-within-sharp : (T : ℕ) → FirstUnchangedOf O M₁ M₂ G T → T ≤ M₁.states * M₂.states + 1
    T-within-sharp T f =
        let x : ¬ (suc K < T) = λ m. f.least (suc K) (omega arith) m (subst (λ (n : ℕ). SameTable O M₁ M₂ (R (suc K)) (R n)) (sym (sub-one (suc K))) rounds-same) in
        omega arith

  -- ---- F

  pub T_sharp : (T : ℕ) → FirstUnchanged O M₁ M₂ T → T ≤ M₁.states * M₂.states + 1
  T_sharp = T-within-sharp (F O M₁ M₂) (F_element L M₁ M₂) F_preserves

-- worked example 2 attains the limit: N1 = N2 = 1 and T = 2
pub sharp_attained : FirstUnchanged (ops_of (explicit_part L2)) (model_of loop2) (model_of still2) ((model_of loop2).states * (model_of still2).states + 1)
unfolding unchanged_test round_of F proposition_part successor_part all_next some_next big_meet big_join imp iff meet_of join_of top_of bot_of is_meet is_join element all_below first_below
sharp_attained = settles_by_test _ _ _ 2 refl refl
