-- Theorems 3 to 5: F is monotone, rounds descend, the first unchanged round T exists within its limit, and round T is the greatest
-- simulation. Stated for any operator on tables that is monotone, reads its table only at pairs of states and gives elements.
-- Rests on Simulation, Folds, Lowerings, Descent, Fixpoint.
--   F_cong, F_mono, F_element, score_cong, round_next: F and score read a table only at the pairs of states; F is monotone, into elements
--   rounds_descend, below-rounds, round_element: theorem 3
--   T_exists, T_unique, T_at_most, T_at_most-size, T_of_one_element: theorem 4
--   settled_greatest, settled_below, above_settled: theorem 5
--   post_fixed_le, round_post_fixed_exactly: S at or below F(S) lies at or below every greatest simulation; which rounds are such tables
--   stays, fixed-at-T, descend, below-every, fixed_below, rounds-element, rounds-lower, exists-T, exists-T-size, T-within, below-greatest, unlowered-exactly: the same of any
--     operator like F
use Prim.Native.Nat.{ℕ, zero, suc, ◌+◌, ◌*◌, ◌-◌, ◌≤◌, ◌<◌}
use Rattle.std.specs.Prelude.{◌≡◌, Bool, true, ◌↔◌, List, length}
use Rattle.std.proofs.Math.Path.{refl, sym, ap, subst}
use Rattle.std.proofs.Common.{◌∙◌, ⊎_elim, le_trans, not-suc-le-zero, eq-or-lt_of_le, mul-zero, sub-one}
use Rattle.std.proofs.Math.Decide.{le_ind}
use native.Mathlib.Omega.{arith}
use Rattle.theory.specs.Lattice.{Ops, Laws, AtMost, Element, Chain, LongestChain, imp}
use Rattle.theory.specs.Model.{Model}
use Rattle.theory.specs.Value.{some_next}
use Rattle.theory.specs.Simulation.{successor_part, F, round, round_of, SameTable, AtMostTable, FixedBy, PostFixedBy, GreatestFixedBy, FirstUnchangedOf, FirstUnchanged, GreatestSimulation, score, lowerings}
use Rattle.theory.specs.Folds.{meet_mono, big_meet_cong, big_join_cong}
use Rattle.theory.specs.Finite.{First}
use Rattle.theory.specs.Descent.{Unlowered, downwards}
use Rattle.theory.proofs.Descent.{first-unlowered, lowerings-le, apart-most}
use Rattle.theory.specs.Lowerings.{lowerings-mono}
use Rattle.theory.proofs.Monotone.{all_next_cong, some_next_cong, all_next_mono, some_next_mono, chain-size}

-- ---- F and score read a table only at the pairs of states

module _ {A : Type 0} (O : Ops A) (M₁ M₂ : Model A) where
  pub F_cong : {S U : ℕ → ℕ → A} → SameTable O M₁ M₂ S U → (q₁ q₂ : ℕ) → F O M₁ M₂ S q₁ q₂ ≡ F O M₁ M₂ U q₁ q₂
  unfolding F successor_part
  F_cong {S} {U} h q₁ q₂ = ap (O.meet _) (all_next_cong O M₁ (λ x. some_next O M₂ (S x) q₂) (λ x. some_next O M₂ (U x) q₂) (λ x l. some_next_cong O M₂ (S x) (U x) (h x l) q₂) q₁)

  pub score_cong : {S U : ℕ → ℕ → A} → SameTable O M₁ M₂ S U → score O M₁ M₂ S ≡ score O M₁ M₂ U
  unfolding score
  score_cong {S} {U} h = big_meet_cong O M₁.states _ _ (λ q₁ l. ap (imp O (M₁.initial q₁)) (big_join_cong O M₂.states _ _ (λ q₂ m. ap (O.meet (M₂.initial q₂)) (h q₁ l q₂ m))))

  -- round r + 1 is F of round r
  pub round_next : (r q₁ q₂ : ℕ) → round O M₁ M₂ (suc r) q₁ q₂ ≡ F O M₁ M₂ (round O M₁ M₂ r) q₁ q₂
  unfolding round_of
  round_next r q₁ q₂ = refl

  -- T is one number, for any operator on tables
  pub T_unique : (G : (ℕ → ℕ → A) → ℕ → ℕ → A) (T U : ℕ) → FirstUnchangedOf O M₁ M₂ G T → FirstUnchangedOf O M₁ M₂ G U → T ≡ U
  T_unique G T U f g =
      let x : ¬ (U < T) = λ l. f.least U g.above0 l g.unchanged in
      let y : ¬ (T < U) = λ l. g.least T f.above0 l f.unchanged in
      omega arith

  -- ---- an operator that reads its table only at the pairs of states

  module _ (G : (ℕ → ℕ → A) → ℕ → ℕ → A) (cong : (S U : ℕ → ℕ → A) → SameTable O M₁ M₂ S U → (q₁ q₂ : ℕ) → G S q₁ q₂ ≡ G U q₁ q₂) where
    -- after a round that equals the one before, none differs
    pub stays : (T : ℕ) → FirstUnchangedOf O M₁ M₂ G T → (r : ℕ) → T ≤ r → SameTable O M₁ M₂ (round_of O M₁ M₂ G r) (round_of O M₁ M₂ G T)
    unfolding round_of
    stays zero f r l = absurd (not-suc-le-zero f.above0)
    stays (suc t) f r l = le_ind (λ r. SameTable O M₁ M₂ (round_of O M₁ M₂ G r) (round_of O M₁ M₂ G (suc t))) (λ q₁ l q₂ m. refl) next r l
      where
        same : SameTable O M₁ M₂ (round_of O M₁ M₂ G (suc t)) (round_of O M₁ M₂ G t)
        same = subst (λ (n : ℕ). SameTable O M₁ M₂ (round_of O M₁ M₂ G (suc t)) (round_of O M₁ M₂ G n)) (sub-one (suc t)) f.unchanged

        next : (r : ℕ) → suc t ≤ r → SameTable O M₁ M₂ (round_of O M₁ M₂ G r) (round_of O M₁ M₂ G (suc t)) → SameTable O M₁ M₂ (round_of O M₁ M₂ G (suc r)) (round_of O M₁ M₂ G (suc t))
        next r l h q₁ k q₂ m = cong _ _ (λ x a y b. h x a y b ∙ same x a y b) q₁ q₂

    pub fixed-at-T : (T : ℕ) → FirstUnchangedOf O M₁ M₂ G T → FixedBy O M₁ M₂ G (round_of O M₁ M₂ G T)
    unfolding round_of
    fixed-at-T T f q₁ l q₂ m = sym (stays T f (suc T) (omega arith) q₁ l q₂ m)

module _ {A : Type 0} {O : Ops A} (L : Laws O) (M₁ M₂ : Model A) where
  pub F_mono : {S U : ℕ → ℕ → A} → AtMostTable O M₁ M₂ S U → (q₁ q₂ : ℕ) → AtMost O (F O M₁ M₂ S q₁ q₂) (F O M₁ M₂ U q₁ q₂)
  unfolding F successor_part
  F_mono h q₁ q₂ = meet_mono L (L.rfl _) (all_next_mono L M₁ (λ q₁' l. some_next_mono L M₂ (λ q₂' m. h q₁' l q₂' m) q₂) q₁)

  pub F_element : (S : ℕ → ℕ → A) (q₁ q₂ : ℕ) → Element O (F O M₁ M₂ S q₁ q₂)
  unfolding F
  F_element S q₁ q₂ = L.meet-element _ _

  pub fixed_below : (G : (ℕ → ℕ → A) → ℕ → ℕ → A) (S : ℕ → ℕ → A) → FixedBy O M₁ M₂ G S → PostFixedBy O M₁ M₂ G S
  fixed_below G S s q₁ l q₂ m = rw (← s q₁ l q₂ m) (L.rfl _)

  -- ---- a monotone operator

  module _ (G : (ℕ → ℕ → A) → ℕ → ℕ → A) (mono : (S U : ℕ → ℕ → A) → AtMostTable O M₁ M₂ S U → (q₁ q₂ : ℕ) → AtMost O (G S q₁ q₂) (G U q₁ q₂)) where
    pub descend : (r q₁ q₂ : ℕ) → AtMost O (round_of O M₁ M₂ G (suc r) q₁ q₂) (round_of O M₁ M₂ G r q₁ q₂)
    unfolding round_of
    descend zero q₁ q₂ = L.top_max _
    descend (suc r) q₁ q₂ = mono _ _ (λ q₁' l q₂' m. descend r q₁' q₂') q₁ q₂

    -- a table that G does not lower lies at or below every round
    pub below-every : (S : ℕ → ℕ → A) → PostFixedBy O M₁ M₂ G S → (r : ℕ) → AtMostTable O M₁ M₂ S (round_of O M₁ M₂ G r)
    unfolding round_of
    below-every S h zero q₁ l q₂ m = L.top_max _
    below-every S h (suc r) q₁ l q₂ m = L.trans (h q₁ l q₂ m) (mono _ _ (below-every S h r) q₁ q₂)

    module _ (element : (S : ℕ → ℕ → A) (q₁ q₂ : ℕ) → Element O (G S q₁ q₂)) where
      pub rounds-element : (r q₁ q₂ : ℕ) → Element O (round_of O M₁ M₂ G r q₁ q₂)
      unfolding round_of
      rounds-element zero q₁ q₂ = L.top-element
      rounds-element (suc r) q₁ q₂ = element _ q₁ q₂

      -- a round that the next one does not lower equals it
      unlowered-same : (r : ℕ) → AtMostTable O M₁ M₂ (round_of O M₁ M₂ G r) (round_of O M₁ M₂ G (suc r)) → SameTable O M₁ M₂ (round_of O M₁ M₂ G (suc r)) (round_of O M₁ M₂ G (suc r - 1))
      unlowered-same r h =
          subst (λ (n : ℕ). SameTable O M₁ M₂ (round_of O M₁ M₂ G (suc r)) (round_of O M₁ M₂ G n)) (sym (sub-one (suc r)))
          (λ q₁ l q₂ m. L.antisym (rounds-element (suc r) q₁ q₂) (rounds-element r q₁ q₂) (descend r q₁ q₂) (h q₁ l q₂ m))

      -- the rounds together lower at most N1·N2·(h − 1) entries, by any test that equal elements pass
      pub rounds-lower : (same : A → A → Bool) → ((a : A) → same a a ≡ true) → (h : ℕ) → ((l : List A) → Chain O l → length l ≤ h) → (t : ℕ)
          → lowerings same M₁.states M₂.states (round_of O M₁ M₂ G) t ≤ M₁.states * M₂.states * (h - 1)
      rounds-lower same alike h longest t =
          le_trans
          (lowerings-mono O.at_most M₁.states M₂.states (round_of O M₁ M₂ G) same
          (λ i q₁ l q₂ m e. rw (L.antisym (rounds-element (suc i) q₁ q₂) (rounds-element i q₁ q₂) (descend i q₁ q₂) e) (alike _)) t)
          (lowerings-le (downwards L) h (apart-most L h longest) M₁.states M₂.states (round_of O M₁ M₂ G) (λ t q₁ l q₂ m. descend t q₁ q₂) t)

      -- T exists within the limit that the chains give
      pub exists-T : (h : ℕ) → ((l : List A) → Chain O l → length l ≤ h) → (T : ℕ) × (T ≤ M₁.states * M₂.states * (h - 1) + 1) × FirstUnchangedOf O M₁ M₂ G T
      exists-T h longest = go (first-unlowered (downwards L) h (apart-most L h longest) M₁.states M₂.states (round_of O M₁ M₂ G) (λ t q₁ l q₂ m. descend t q₁ q₂))
        where
          go : (t : ℕ) × (t ≤ M₁.states * M₂.states * (h - 1)) × First (Unlowered O.at_most M₁.states M₂.states (round_of O M₁ M₂ G)) t → (T : ℕ) × (T ≤ M₁.states * M₂.states * (h - 1) + 1) × FirstUnchangedOf O M₁ M₂ G T
          go w = (
            suc w.0,
            omega (arith, w.1),
            record {
              above0 = omega arith;
              unchanged = unlowered-same w.0 w.2.here;
              least = earlier;
            },
          )
            where
              earlier : (t : ℕ) → 0 < t → t < suc w.0 → SameTable O M₁ M₂ (round_of O M₁ M₂ G t) (round_of O M₁ M₂ G (t - 1)) → ⊥
              earlier zero p l s = not-suc-le-zero p
              earlier (suc t) p l s =
                  w.2.earlier t (omega arith)
                  (λ q₁ k q₂ m. subst (λ (n : ℕ). AtMost O (round_of O M₁ M₂ G n q₁ q₂) (round_of O M₁ M₂ G (suc t) q₁ q₂)) (sub-one (suc t)) (rw (← s q₁ k q₂ m) (L.rfl _)))

      -- and so with n for h
      pub exists-T-size : (T : ℕ) × (T ≤ M₁.states * M₂.states * (O.size - 1) + 1) × FirstUnchangedOf O M₁ M₂ G T
      exists-T-size = exists-T O.size (chain-size L)

      -- whatever T is, the limit holds of it
      pub T-within : (h : ℕ) → ((l : List A) → Chain O l → length l ≤ h) → (T : ℕ) → FirstUnchangedOf O M₁ M₂ G T → T ≤ M₁.states * M₂.states * (h - 1) + 1
      T-within h longest T f = let w = exists-T h longest in omega (arith, w.1, T_unique O M₁ M₂ G T w.0 f w.2)

      -- ---- tables at or below their G, which reads its table only at the pairs of states

      module _ (cong : (S U : ℕ → ℕ → A) → SameTable O M₁ M₂ S U → (q₁ q₂ : ℕ) → G S q₁ q₂ ≡ G U q₁ q₂) where
        pub below-greatest : (S : ℕ → ℕ → A) → PostFixedBy O M₁ M₂ G S → (U : ℕ → ℕ → A) → GreatestFixedBy O M₁ M₂ G U → AtMostTable O M₁ M₂ S U
        below-greatest S h U g =
            let w = exists-T-size in
            λ q₁ l q₂ m. L.trans (below-every S h w.0 q₁ l q₂ m) (g.greatest _ (fixed-at-T O M₁ M₂ G cong w.0 w.2) q₁ l q₂ m)

        pub unlowered-exactly : (T : ℕ) → FirstUnchangedOf O M₁ M₂ G T → (r : ℕ) → PostFixedBy O M₁ M₂ G (round_of O M₁ M₂ G r) ↔ (T ≤ r + 1)
        unfolding round_of
        unlowered-exactly T f r = (late, late-enough)
          where
            late : PostFixedBy O M₁ M₂ G (round_of O M₁ M₂ G r) → T ≤ r + 1
            late h = let x : ¬ (suc r < T) = λ l. f.least (suc r) (omega arith) l (unlowered-same r h) in omega arith

            late-enough : T ≤ r + 1 → PostFixedBy O M₁ M₂ G (round_of O M₁ M₂ G r)
            late-enough l q₁ k q₂ m = rw (same q₁ k q₂ m) (L.rfl _)
              where
                same : SameTable O M₁ M₂ (round_of O M₁ M₂ G (suc r)) (round_of O M₁ M₂ G r)
                same =
                    ⊎_elim
                    (λ (e : T ≡ suc r). let z : T - 1 ≡ r = omega arith in rw (z, e) at f.unchanged)
                    (λ (e : T < suc r). λ q₁ k q₂ m. stays O M₁ M₂ G cong T f (suc r) (omega arith) q₁ k q₂ m ∙ sym (stays O M₁ M₂ G cong T f r (omega arith) q₁ k q₂ m))
                    (eq-or-lt_of_le (omega arith))

  -- ==== for F

  -- theorem 3
  pub rounds_descend : (r q₁ q₂ : ℕ) → AtMost O (round O M₁ M₂ (suc r) q₁ q₂) (round O M₁ M₂ r q₁ q₂)
  rounds_descend = descend (F O M₁ M₂) (λ S U. F_mono)

  pub below-rounds : (S : ℕ → ℕ → A) → PostFixedBy O M₁ M₂ (F O M₁ M₂) S → (r : ℕ) → AtMostTable O M₁ M₂ S (round O M₁ M₂ r)
  below-rounds = below-every (F O M₁ M₂) (λ S U. F_mono)

  pub round_element : (r q₁ q₂ : ℕ) → Element O (round O M₁ M₂ r q₁ q₂)
  round_element = rounds-element (F O M₁ M₂) (λ S U. F_mono) F_element

  -- theorem 4: T exists, 'T is at most N1·N2·(h − 1) + 1, h being the number of elements in the lattice's longest chain', and so with n for h
  pub T_exists : (h : ℕ) → LongestChain O h → (T : ℕ) × (T ≤ M₁.states * M₂.states * (h - 1) + 1) × FirstUnchanged O M₁ M₂ T
  T_exists h c = exists-T (F O M₁ M₂) (λ S U. F_mono) F_element h c.longest

  pub T_at_most : (h : ℕ) → LongestChain O h → (T : ℕ) → FirstUnchanged O M₁ M₂ T → T ≤ M₁.states * M₂.states * (h - 1) + 1
  T_at_most h c = T-within (F O M₁ M₂) (λ S U. F_mono) F_element h c.longest

  pub T_at_most-size : (T : ℕ) → FirstUnchanged O M₁ M₂ T → T ≤ M₁.states * M₂.states * (O.size - 1) + 1
  T_at_most-size = T-within (F O M₁ M₂) (λ S U. F_mono) F_element O.size (chain-size L)

  -- worked example 6: 'One element, n = 1: T = 1', for any two models
  pub T_of_one_element : O.size ≡ 1 → FirstUnchanged O M₁ M₂ 1
  T_of_one_element e = go (exists-T-size (F O M₁ M₂) (λ S U. F_mono) F_element)
    where
      go : (T : ℕ) × (T ≤ M₁.states * M₂.states * (O.size - 1) + 1) × FirstUnchanged O M₁ M₂ T → FirstUnchanged O M₁ M₂ 1
      go w =
          let z : O.size - 1 ≡ 0 = omega arith in
          let q : w.0 ≡ 1 = omega (arith, rw (z, mul-zero (M₁.states * M₂.states)) at w.1, w.2.above0) in
          subst (λ (n : ℕ). FirstUnchanged O M₁ M₂ n) q w.2

  -- theorem 5: round T is a simulation, and the greatest
  pub settled_greatest : (T : ℕ) → FirstUnchanged O M₁ M₂ T → GreatestSimulation O M₁ M₂ (round O M₁ M₂ T)
  settled_greatest T f = record { is_fixed = fixed-at-T O M₁ M₂ (F O M₁ M₂) (λ S U. F_cong O M₁ M₂) T f; greatest = λ U u. below-rounds U (fixed_below (F O M₁ M₂) U u) T }

  pub settled_below : (T : ℕ) → FirstUnchanged O M₁ M₂ T → PostFixedBy O M₁ M₂ (F O M₁ M₂) (round O M₁ M₂ T)
  settled_below T f = fixed_below (F O M₁ M₂) _ (settled_greatest T f).is_fixed

  -- 'Each entry is at or above the greatest simulation's.'
  pub above_settled : (T : ℕ) → FirstUnchanged O M₁ M₂ T → (r : ℕ) → AtMostTable O M₁ M₂ (round O M₁ M₂ T) (round O M₁ M₂ r)
  above_settled T f r = below-rounds (round O M₁ M₂ T) (settled_below T f) r

  -- ---- tables at or below their F (request 104)

  -- such a table lies at or below the greatest simulation, whatever it is
  pub post_fixed_le : (S : ℕ → ℕ → A) → PostFixedBy O M₁ M₂ (F O M₁ M₂) S → (U : ℕ → ℕ → A) → GreatestSimulation O M₁ M₂ U → AtMostTable O M₁ M₂ S U
  post_fixed_le = below-greatest (F O M₁ M₂) (λ S U. F_mono) F_element (λ S U. F_cong O M₁ M₂)

  -- round r is such a table exactly from round T − 1 on, which equals round T: before that a round lowers an entry
  pub round_post_fixed_exactly : (T : ℕ) → FirstUnchanged O M₁ M₂ T → (r : ℕ) → PostFixedBy O M₁ M₂ (F O M₁ M₂) (round O M₁ M₂ r) ↔ (T ≤ r + 1)
  round_post_fixed_exactly = unlowered-exactly (F O M₁ M₂) (λ S U. F_mono) F_element (λ S U. F_cong O M₁ M₂)
