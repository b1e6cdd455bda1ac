-- The lowerings of F's rounds (request 107): the entries that differ from the round before, summed over rounds 1 to r. Rests on Simulation, Monotone, Lowerings and Rounds.
--   lowerings_most, lowerings_most-size: at most N1·N2·(h − 1), and so with n for h
--   lowerings-at_T, lowerings_before_T: round T adds none, and each of the rounds 1 to T − 1 at least one
use Rattle.std.specs.Prelude.{ℕ, zero, suc, ◌*◌, ◌-◌, ◌≤◌, ◌<◌, ◌≡◌, refl, Bool, true}
use Rattle.std.proofs.Common.{sym, ◌∙◌, subst, add-zero, not-suc-le-zero, sub-one, arith}
use Rattle.theory.specs.Lattice.{Ops, Laws, LongestChain}
use Rattle.theory.specs.Model.{Model}
use Rattle.theory.specs.Simulation.{F, round, SameTable, FirstUnchanged, differing, lowerings}
use Rattle.theory.proofs.Monotone.{chain-size}
use Rattle.theory.specs.Lowerings.{lowerings-more, differing-zero, differing_passes}
use Rattle.theory.proofs.Rounds.{F_mono, F_element, rounds-lower}

-- for any test that equal elements pass
module _ {A : Type 0} {O : Ops A} (L : Laws O) (M₁ M₂ : Model A) (same : A → A → Bool) (alike : (a : A) → same a a ≡ true) where
  abbrev R : ℕ → ℕ → ℕ → A
  R = round O M₁ M₂

  abbrev total : ℕ → ℕ
  total r = lowerings same M₁.states M₂.states R r

  -- 'It is at most N1·N2·(h − 1)'
  pub lowerings_most : (h : ℕ) → LongestChain O h → (r : ℕ) → total r ≤ M₁.states * M₂.states * (h - 1)
  lowerings_most h c = rounds-lower L M₁ M₂ (F O M₁ M₂) (λ S U. F_mono L M₁ M₂) (F_element L M₁ M₂) same alike h c.longest

  pub lowerings_most-size : (r : ℕ) → total r ≤ M₁.states * M₂.states * (O.size - 1)
  lowerings_most-size = rounds-lower L M₁ M₂ (F O M₁ M₂) (λ S U. F_mono L M₁ M₂) (F_element L M₁ M₂) same alike O.size (chain-size L)

  pub lowerings-at_T : (T : ℕ) → FirstUnchanged O M₁ M₂ T → total T ≡ total (T - 1)
  lowerings-at_T zero f = absurd (not-suc-le-zero f.above0)
  lowerings-at_T (suc t) f =
      let e : suc t - 1 ≡ t = sub-one (suc t) in
      let none : differing same M₁.states M₂.states (R t) (R (suc t)) ≡ 0 = differing-zero same _ _ _ _ (λ q₁ l q₂ m. rw (rw e at f.unchanged q₁ l q₂ m) (alike _)) in
      rw e (lowerings-more same _ _ R t ∙ rw (none, add-zero))

  -- where equal elements alone pass
  pub lowerings_before_T : ((a b : A) → same a b ≡ true → a ≡ b) → (T : ℕ) → FirstUnchanged O M₁ M₂ T → (r : ℕ) → suc r < T → total r < total (suc r)
  lowerings_before_T only T f r l = go (differing same M₁.states M₂.states (R r) (R (suc r))) refl
    where
      go : (n : ℕ) → differing same M₁.states M₂.states (R r) (R (suc r)) ≡ n → total r < total (suc r)
      go zero e =
          absurd
          (f.least (suc r) (omega arith) l
          (subst (λ (n : ℕ). SameTable O M₁ M₂ (R (suc r)) (R n)) (sym (sub-one (suc r)))
          (λ q₁ k q₂ m. sym (only _ _ (differing_passes same _ _ (R r) (R (suc r)) e q₁ k q₂ m)))))
      go (suc n) e = rw (lowerings-more same _ _ R r) (omega (arith, e))
