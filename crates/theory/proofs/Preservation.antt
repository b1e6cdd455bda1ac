-- Theorems 6 and 7: what a table bounds. Theorem 3 of 000 by rounds and for every table at or below its F, and theorem 6.1 of 000.
-- Rests on Value, Simulation, Folds, Fixpoint, Rounds.
--   bounded_by_round, bounded-table, bounded_at_T: theorem 6, for a round, for every S ≤ F S, and at T
--   score_by_round, score_at_T: theorem 7, over score_bounds
--   bounds_moves: the step from states to their successors
use Prim.Native.Nat.{ℕ, zero, suc, ◌<◌, max}
use Rattle.std.specs.Prelude.{◌≡◌, true}
use Rattle.std.proofs.Math.Path.{refl}
use Rattle.std.proofs.Common.{le_of_suc-le-suc, not-suc-le-zero, arith, ltb-true}
use Rattle.theory.specs.Lattice.{Ops, Laws, AtMost, imp, big_meet, big_join}
use Rattle.theory.specs.Model.{Model}
use Rattle.theory.specs.Formula.{Formula, bottom, top, prop, negated, var, or, and, AX, EX, mu, nu, closed_under, universal, fixpoint_free, over_props, nested_AX, UniversalSentence}
use Rattle.theory.specs.Value.{iterate, bind, all_next, some_next, eval, enough, value_at, whole_value}
use Rattle.theory.specs.Simulation.{proposition_part, successor_part, F, round_of, round, PostFixedBy, Bounds, BoundsWhole, FirstUnchanged, score}
use Rattle.theory.specs.Folds.{big_meet_le, big_meet_mono, big_join_lub, join-big_meet, meet_mono, join_mono, imp_mono, imp-meet, imp-join, imp-bot, imp-top, imp-neg, iff_l, iff_r, de_morgan_join}
use Rattle.theory.specs.TestLaws.{and_l, and_r, false_true}
use Rattle.theory.proofs.Fixpoint.{applications_le}
use Rattle.theory.proofs.Rounds.{settled_below}

module _ {A : Type 0} {O : Ops A} (L : Laws O) (M₁ M₂ : Model A) where
  open O use {meet as ◌⊓◌, join as ◌⊔◌, neg}
  open L use {rfl, trans, meet_l, meet_r, meet_glb, join_l, join_r, join_lub, dist, neg_anti, neg_in}

  infixl 70 ◌⊓◌
  infixl 60 ◌⊔◌
  bounds_prop : (S : ℕ → ℕ → A) (p : ℕ) → p < M₁.propositions → (q₁ q₂ : ℕ) → AtMost O (F O M₁ M₂ S q₁ q₂) (imp O (M₂.label q₂ p) (M₁.label q₁ p))
  unfolding F proposition_part
  bounds_prop S p h q₁ q₂ = trans (meet_l _ _) (trans (big_meet_le L M₁.propositions _ p h) (iff_r L _ _))

  bounds_negated : (S : ℕ → ℕ → A) (p : ℕ) → p < M₁.propositions → (q₁ q₂ : ℕ) → AtMost O (F O M₁ M₂ S q₁ q₂) (imp O (neg (M₂.label q₂ p)) (neg (M₁.label q₁ p)))
  unfolding F proposition_part
  bounds_negated S p h q₁ q₂ = trans (meet_l _ _) (trans (big_meet_le L M₁.propositions _ p h) (trans (iff_l L _ _) (imp-neg L _ _)))

  -- The step from states to their successors: if each move c of model 1 is matched by a move d of model 2 into S, and S bounds f by
  -- g, then what holds after all moves is bounded. The moves are the transitions from a pair of states, or the initial values.
  pub bounds_moves : (S : ℕ → ℕ → A) (f g c d : ℕ → A) → Bounds O M₁ M₂ S f g → AtMost O (big_meet O M₁.states (λ q. imp O (c q) (big_join O M₂.states (λ r. d r ⊓ S q r)))) (imp O (big_meet O M₂.states (λ r. imp O (d r) (g r))) (big_meet O M₁.states (λ q. imp O (c q) (f q))))
  unfolding imp
  bounds_moves S f g c d h = rw (join-big_meet L M₁.states (neg X) (λ q. imp O (c q) (f q))) (big_meet_mono L M₁.states each)
    where
      X : A
      X = big_meet O M₂.states (λ r. imp O (d r) (g r))

      matched : (q : ℕ) → q < M₁.states → (r : ℕ) → r < M₂.states → AtMost O (d r ⊓ S q r) (neg X ⊔ f q)
      matched q l r m = trans (meet_mono L (rfl _) (h q l r m)) (trans (dist _ _ _) (join_mono L (trans (meet_mono L (neg_in _) (rfl _)) (rw (← de_morgan_join L (neg (d r)) (g r)) (neg_anti (big_meet_le L M₂.states _ r m)))) (meet_r _ _)))

      each : (q : ℕ) → q < M₁.states → AtMost O (imp O (c q) (big_join O M₂.states (λ r. d r ⊓ S q r))) (neg X ⊔ imp O (c q) (f q))
      each q l = join_lub (trans (join_l _ _) (join_r _ _)) (trans (big_join_lub L M₂.states _ _ (matched q l)) (join_mono L (rfl _) (join_r _ _)))

  bounds_next : (S : ℕ → ℕ → A) (f g : ℕ → A) → Bounds O M₁ M₂ S f g → (q₁ q₂ : ℕ) → AtMost O (F O M₁ M₂ S q₁ q₂) (imp O (all_next O M₂ g q₂) (all_next O M₁ f q₁))
  unfolding F successor_part all_next some_next
  bounds_next S f g h q₁ q₂ = trans (meet_r _ _) (bounds_moves S f g (M₁.transition q₁) (M₂.transition q₂) h)

  -- ---- by rounds: no fixpoint, and fewer nested AX than rounds

  eval_by_round : (K J : ℕ) (e d : ℕ → ℕ → A) (φ : Formula) → closed_under 0 φ ≡ true → universal φ ≡ true → over_props M₁.propositions φ ≡ true → fixpoint_free φ ≡ true → (r : ℕ) → nested_AX φ < r → Bounds O M₁ M₂ (round O M₁ M₂ r) (eval O M₁ K φ e) (eval O M₂ J φ d)
  unfolding eval round_of nested_AX closed_under universal over_props fixpoint_free
  eval_by_round K J e d bottom c u o x r h q₁ l q₂ m = imp-bot L _ _
  eval_by_round K J e d top c u o x r h q₁ l q₂ m = imp-top L _ _
  eval_by_round K J e d (prop p) c u o x zero h q₁ l q₂ m = absurd (not-suc-le-zero h)
  eval_by_round K J e d (prop p) c u o x (suc r) h q₁ l q₂ m = bounds_prop _ p (ltb-true _ _ o) q₁ q₂
  eval_by_round K J e d (negated p) c u o x zero h q₁ l q₂ m = absurd (not-suc-le-zero h)
  eval_by_round K J e d (negated p) c u o x (suc r) h q₁ l q₂ m = bounds_negated _ p (ltb-true _ _ o) q₁ q₂
  eval_by_round K J e d (var v) c u o x r h q₁ l q₂ m = absurd (not-suc-le-zero (ltb-true v 0 c))
  eval_by_round K J e d (or f g) c u o x r h q₁ l q₂ m =
      trans
      (meet_glb (eval_by_round K J e d f (and_l _ (closed_under 0 g) c) (and_l _ (universal g) u) (and_l _ (over_props M₁.propositions g) o) (and_l _ (fixpoint_free g) x) r (omega arith) q₁ l q₂ m)
      (eval_by_round K J e d g (and_r (closed_under 0 f) _ c) (and_r (universal f) _ u) (and_r (over_props M₁.propositions f) _ o) (and_r (fixpoint_free f) _ x) r (omega arith) q₁ l q₂ m))
      (imp-join L _ _ _ _)
  eval_by_round K J e d (and f g) c u o x r h q₁ l q₂ m =
      trans
      (meet_glb (eval_by_round K J e d f (and_l _ (closed_under 0 g) c) (and_l _ (universal g) u) (and_l _ (over_props M₁.propositions g) o) (and_l _ (fixpoint_free g) x) r (omega arith) q₁ l q₂ m)
      (eval_by_round K J e d g (and_r (closed_under 0 f) _ c) (and_r (universal f) _ u) (and_r (over_props M₁.propositions f) _ o) (and_r (fixpoint_free f) _ x) r (omega arith) q₁ l q₂ m))
      (imp-meet L _ _ _ _)
  eval_by_round K J e d (AX f) c u o x zero h q₁ l q₂ m = absurd (not-suc-le-zero h)
  eval_by_round K J e d (AX f) c u o x (suc r) h q₁ l q₂ m = bounds_next _ _ _ (eval_by_round K J e d f c u o x r (le_of_suc-le-suc h)) q₁ q₂
  eval_by_round K J e d (EX f) c u o x r h q₁ l q₂ m = absurd (false_true refl u)
  eval_by_round K J e d (mu f) c u o x r h q₁ l q₂ m = absurd (false_true refl x)
  eval_by_round K J e d (nu f) c u o x r h q₁ l q₂ m = absurd (false_true refl x)

  -- Theorem 6, by rounds: 'for every closed universal formula without fixpoints and with fewer than r nested AX'
  pub bounded_by_round : (φ : Formula) → UniversalSentence M₁.propositions φ → fixpoint_free φ ≡ true → (r : ℕ) → nested_AX φ < r → Bounds O M₁ M₂ (round O M₁ M₂ r) (value_at O M₁ φ) (value_at O M₂ φ)
  unfolding value_at
  bounded_by_round φ s x r h = eval_by_round _ _ _ _ φ s.is_closed s.is_universal s.is_over x r h

  -- ---- for a table at or below its F: every universal formula, fixpoints among them

  module _ (S : ℕ → ℕ → A) (sound : PostFixedBy O M₁ M₂ (F O M₁ M₂) S) where
    bounds-iterate : (f g : (ℕ → A) → ℕ → A) → ((x y : ℕ → A) → Bounds O M₁ M₂ S x y → Bounds O M₁ M₂ S (f x) (g y)) → (x y : ℕ → A) → Bounds O M₁ M₂ S x y → (t : ℕ) → Bounds O M₁ M₂ S (iterate t f x) (iterate t g y)
    unfolding iterate
    bounds-iterate f g h x y b zero = b
    bounds-iterate f g h x y b (suc t) = h _ _ (bounds-iterate f g h x y b t)

    abbrev BoundsEnv : (ℕ → ℕ → A) → (ℕ → ℕ → A) → Type 0
    BoundsEnv e d = (v : ℕ) → Bounds O M₁ M₂ S (e v) (d v)

    bounds-bind : (e d : ℕ → ℕ → A) (x y : ℕ → A) → Bounds O M₁ M₂ S x y → BoundsEnv e d → BoundsEnv (bind x e) (bind y d)
    unfolding bind
    bounds-bind e d x y b h zero = b
    bounds-bind e d x y b h (suc v) = h v

    -- with a common count of applications
    bounded : (K : ℕ) (φ : Formula) → universal φ ≡ true → over_props M₁.propositions φ ≡ true → (e d : ℕ → ℕ → A) → BoundsEnv e d → Bounds O M₁ M₂ S (eval O M₁ K φ e) (eval O M₂ K φ d)
    unfolding eval universal over_props
    bounded K bottom u o e d b q₁ l q₂ m = imp-bot L _ _
    bounded K top u o e d b q₁ l q₂ m = imp-top L _ _
    bounded K (prop p) u o e d b q₁ l q₂ m = trans (sound q₁ l q₂ m) (bounds_prop _ p (ltb-true _ _ o) q₁ q₂)
    bounded K (negated p) u o e d b q₁ l q₂ m = trans (sound q₁ l q₂ m) (bounds_negated _ p (ltb-true _ _ o) q₁ q₂)
    bounded K (var v) u o e d b q₁ l q₂ m = b v q₁ l q₂ m
    bounded K (or f g) u o e d b q₁ l q₂ m =
        trans
        (meet_glb (bounded K f (and_l _ (universal g) u) (and_l _ (over_props M₁.propositions g) o) e d b q₁ l q₂ m)
        (bounded K g (and_r (universal f) _ u) (and_r (over_props M₁.propositions f) _ o) e d b q₁ l q₂ m))
        (imp-join L _ _ _ _)
    bounded K (and f g) u o e d b q₁ l q₂ m =
        trans
        (meet_glb (bounded K f (and_l _ (universal g) u) (and_l _ (over_props M₁.propositions g) o) e d b q₁ l q₂ m)
        (bounded K g (and_r (universal f) _ u) (and_r (over_props M₁.propositions f) _ o) e d b q₁ l q₂ m))
        (imp-meet L _ _ _ _)
    bounded K (AX f) u o e d b q₁ l q₂ m = trans (sound q₁ l q₂ m) (bounds_next _ _ _ (bounded K f u o e d b) q₁ q₂)
    bounded K (EX f) u o e d b q₁ l q₂ m = absurd (false_true refl u)
    bounded K (mu f) u o e d b q₁ l q₂ m = bounds-iterate _ _ (λ x y c. bounded K f u o _ _ (bounds-bind e d x y c b)) _ _ (λ q₁ l q₂ m. imp-bot L _ _) K q₁ l q₂ m
    bounded K (nu f) u o e d b q₁ l q₂ m = bounds-iterate _ _ (λ x y c. bounded K f u o _ _ (bounds-bind e d x y c b)) _ _ (λ q₁ l q₂ m. imp-top L _ _) K q₁ l q₂ m

    -- Theorem 6, for every S at or below F S and every closed universal formula
    pub bounded-table : (φ : Formula) → UniversalSentence M₁.propositions φ → Bounds O M₁ M₂ S (value_at O M₁ φ) (value_at O M₂ φ)
    unfolding value_at
    bounded-table φ s q₁ l q₂ m =
        trans
        (bounded K φ s.is_universal s.is_over none none (λ v q₁ l q₂ m. imp-bot L _ _) q₁ l q₂ m)
        (imp_mono L
        (applications_le L M₂ (enough O M₂) K (omega arith) (omega arith) φ none none (λ v q l. rfl _) q₂ m)
        (applications_le L M₁ K (enough O M₁) (omega arith) (omega arith) φ none none (λ v q l. rfl _) q₁ l))
      where
        K : ℕ
        K = max (enough O M₁) (enough O M₂)

        none : ℕ → ℕ → A
        none v q = O.bot

  -- 'once r = T for every closed universal formula'
  pub bounded_at_T : (T : ℕ) → FirstUnchanged O M₁ M₂ T → (φ : Formula) → UniversalSentence M₁.propositions φ → Bounds O M₁ M₂ (round O M₁ M₂ T) (value_at O M₁ φ) (value_at O M₂ φ)
  bounded_at_T T f = bounded-table (round O M₁ M₂ T) (settled_below L M₁ M₂ T f)

  -- ---- theorem 7 (theorem 6.1 of 000): the score bounds the whole values

  pub score_bounds : (S : ℕ → ℕ → A) (φ : Formula) → Bounds O M₁ M₂ S (value_at O M₁ φ) (value_at O M₂ φ) → BoundsWhole O M₁ M₂ (score O M₁ M₂ S) φ
  unfolding score whole_value
  score_bounds S φ h = bounds_moves S (value_at O M₁ φ) (value_at O M₂ φ) M₁.initial M₂.initial h

  pub score_by_round : (φ : Formula) → UniversalSentence M₁.propositions φ → fixpoint_free φ ≡ true → (r : ℕ) → nested_AX φ < r → BoundsWhole O M₁ M₂ (score O M₁ M₂ (round O M₁ M₂ r)) φ
  score_by_round φ s x r h = score_bounds _ φ (bounded_by_round φ s x r h)

  pub score_at_T : (T : ℕ) → FirstUnchanged O M₁ M₂ T → (φ : Formula) → UniversalSentence M₁.propositions φ → BoundsWhole O M₁ M₂ (score O M₁ M₂ (round O M₁ M₂ T)) φ
  score_at_T T f φ s = score_bounds _ φ (bounded_at_T T f φ s)
