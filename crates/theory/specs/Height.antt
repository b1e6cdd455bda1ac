-- The rest of theorem 4: in a lattice on the numbers below n there is a longest chain, of at most n elements.
-- Rests on Lattice, Simulation (indicator, sum), Test, Finite.
use Rattle.std.specs.Prelude.{ℕ, zero, suc, ◌+◌, ◌≤◌, ◌<◌, ◌≡◌, refl, Bool, true, false, ◌⊎◌, ◌≢◌, List, [], ◌∷◌, eqb, ltb, length}
use Rattle.std.proofs.Common.{zero-le, sym, ap, ◌∙◌, inl, inr, le_refl, mul-one, arith, ltb-true, eqb-true, eq-eqb, ne_eqb}
use Rattle.std.proofs.Math.Logic.{⊎_swap}
use Rattle.std.proofs.lemmas.Bool.{eqb-false}
use Rattle.theory.specs.Lattice.{Ops, AtMost, Element, All, Pairwise, Chain, LongestChain}
use Rattle.theory.specs.Simulation.{indicator, sum}
use Rattle.theory.specs.TestLaws.{decide}
use Rattle.theory.specs.Finite.{sum_le, sum_some, sum_add, scan, all_map}

-- ---- a list of distinct numbers below n has at most n of them

occurs : ℕ → List ℕ → ℕ
occurs i [] = 0
occurs i (a ∷ l) = indicator (eqb a i) + occurs i l

sum_indicator : (n a : ℕ) → a < n → 0 < sum n (λ i. indicator (eqb a i))
sum_indicator n a l = sum_some n (λ i. indicator (eqb a i)) a l (rw (eq-eqb a a refl) (le_refl _))

length_le : (n : ℕ) (l : List ℕ) → All (λ a. a < n) l → length l ≤ sum n (λ i. occurs i l)
unfolding occurs
length_le n [] h = zero-le
length_le n (a ∷ l) h = omega (arith, sum_add n (λ i. indicator (eqb a i)) (λ i. occurs i l), sum_indicator n a h.0, length_le n l h.1)

occurs_none : (i : ℕ) (l : List ℕ) → All (λ b. i ≢ b) l → occurs i l ≡ 0
unfolding occurs
occurs_none i [] h = refl
occurs_none i (a ∷ l) h = rw (ne_eqb a i (λ e. h.0 (sym e)), occurs_none i l h.1)

occurs_le : (i : ℕ) (l : List ℕ) → Pairwise (λ a b. a ≢ b) l → occurs i l ≤ 1
unfolding occurs
occurs_le i [] h = zero-le
occurs_le i (a ∷ l) h = go (eqb a i) refl (occurs_le i l h.1)
  where
    go : (b : Bool) → eqb a i ≡ b → occurs i l ≤ 1 → indicator b + occurs i l ≤ 1
    go true e w = omega (arith, occurs_none i l (rw (← eqb-true a i e) h.0))
    go false e w = omega arith

pub distinct_le : (n : ℕ) (l : List ℕ) → All (λ a. a < n) l → Pairwise (λ a b. a ≢ b) l → length l ≤ n
distinct_le n l h d = omega (arith, length_le n l h, sum_le n 1 (λ i. occurs i l) (λ i m. occurs_le i l d), mul-one n)

-- ---- decisions

both : {P Q : Type 0} → P ⊎ (¬ P) → Q ⊎ (¬ Q) → (P × Q) ⊎ (¬ (P × Q))
both (inl p) (inl q) = inl (p, q)
both (inl p) (inr q) = inr (λ w. q w.1)
both (inr p) e = inr (λ w. p w.0)

either : {P Q : Type 0} → P ⊎ (¬ P) → Q ⊎ (¬ Q) → (P ⊎ Q) ⊎ (¬ (P ⊎ Q))
either (inl p) e = inl (inl p)
either (inr p) (inl q) = inl (inr q)
either {P} {Q} (inr p) (inr q) = inr none
  where
    none : P ⊎ Q → ⊥
    none (inl x) = p x
    none (inr x) = q x

distinct? : (a b : ℕ) → (a ≢ b) ⊎ (¬ (a ≢ b))
distinct? a b = go (eqb a b) refl
  where
    go : (t : Bool) → eqb a b ≡ t → (a ≢ b) ⊎ (¬ (a ≢ b))
    go true e = inr (λ w. w (eqb-true a b e))
    go false e = inl (eqb-false a b e)

all? : (P : ℕ → Type 0) → ((a : ℕ) → P a ⊎ (¬ P a)) → (l : List ℕ) → All P l ⊎ (¬ All P l)
all? P dec [] = inl tt
all? P dec (a ∷ l) = both (dec a) (all? P dec l)

pairwise? : (R : ℕ → ℕ → Type 0) → ((a b : ℕ) → R a b ⊎ (¬ R a b)) → (l : List ℕ) → Pairwise R l ⊎ (¬ Pairwise R l)
pairwise? R dec [] = inl tt
pairwise? R dec (a ∷ l) = both (all? (R a) (dec a) l) (pairwise? R dec l)

-- of all lists of m numbers below n: one has P, or none has
find : (n m : ℕ) (P : List ℕ → Type 0) → ((l : List ℕ) → P l ⊎ (¬ P l)) → ((l : List ℕ) × (length l ≡ m) × P l) ⊎ ((l : List ℕ) → length l ≡ m → All (λ a. a < n) l → ¬ P l)
find n zero P dec = go (dec [])
  where
    none : ¬ P [] → (l : List ℕ) → length l ≡ 0 → All (λ a. a < n) l → ¬ P l
    none p [] e h = p
    none p (a ∷ l) e h = absurd (omega arith)

    go : P [] ⊎ (¬ P []) → ((l : List ℕ) × (length l ≡ 0) × P l) ⊎ ((l : List ℕ) → length l ≡ 0 → All (λ a. a < n) l → ¬ P l)
    go (inl p) = inl ([], refl, p)
    go (inr p) = inr (none p)
find n (suc m) P dec = go (scan n (λ a. (l : List ℕ) → length l ≡ m → All (λ a. a < n) l → ¬ P (a ∷ l)) (λ a. (l : List ℕ) × (length l ≡ m) × P (a ∷ l)) (λ a _. ⊎_swap (find n m (λ l. P (a ∷ l)) (λ l. dec (a ∷ l)))))
  where
    none : ((a : ℕ) → a < n → (l : List ℕ) → length l ≡ m → All (λ a. a < n) l → ¬ P (a ∷ l)) → (l : List ℕ) → length l ≡ suc m → All (λ a. a < n) l → ¬ P l
    none w [] e h = absurd (omega arith)
    none w (a ∷ l) e h = w a h.0 l (omega arith) h.1

    go : ((a : ℕ) → a < n → (l : List ℕ) → length l ≡ m → All (λ a. a < n) l → ¬ P (a ∷ l)) ⊎ ((a : ℕ) × (a < n) × ((l : List ℕ) × (length l ≡ m) × P (a ∷ l))) → ((l : List ℕ) × (length l ≡ suc m) × P l) ⊎ ((l : List ℕ) → length l ≡ suc m → All (λ a. a < n) l → ¬ P l)
    go (inl w) = inr (none w)
    go (inr w) = inl (w.0 ∷ w.2.0, ap suc w.2.1, w.2.2)

-- ---- the longest chain

module _ (O : Ops ℕ) (numbers : (a : ℕ) → O.is_element a ≡ ltb a O.size) where
  below-size : (l : List ℕ) → Chain O l → All (λ a. a < O.size) l
  below-size l c = all_map _ _ (λ a e. ltb-true a O.size (sym (numbers a) ∙ e)) l c.elements

  pub chain_most : (l : List ℕ) → Chain O l → length l ≤ O.size
  chain_most l c = distinct_le O.size l (below-size l c) c.distinct

  chain? : (l : List ℕ) → Chain O l ⊎ (¬ Chain O l)
  chain? l = go (all? (Element O) (λ a. decide (O.is_element a)) l) (pairwise? (λ a b. a ≢ b) distinct? l) (pairwise? (λ a b. AtMost O a b ⊎ AtMost O b a) (λ a b. either (decide (O.at_most a b)) (decide (O.at_most b a))) l)
    where
      go : All (Element O) l ⊎ (¬ All (Element O) l) → Pairwise (λ a b. a ≢ b) l ⊎ (¬ Pairwise (λ a b. a ≢ b) l) → Pairwise (λ a b. AtMost O a b ⊎ AtMost O b a) l ⊎ (¬ Pairwise (λ a b. AtMost O a b ⊎ AtMost O b a) l) → Chain O l ⊎ (¬ Chain O l)
      go (inl p) (inl q) (inl r) = inl (record { elements = p; distinct = q; ordered = r })
      go (inr p) q r = inr (λ c. p c.elements)
      go (inl p) (inr q) r = inr (λ c. q c.distinct)
      go (inl p) (inl q) (inr r) = inr (λ c. r c.ordered)

  -- from a limit d on the chains down to the least limit
  longest_from : (d : ℕ) → ((l : List ℕ) → Chain O l → length l ≤ d) → (h : ℕ) × (h ≤ d) × LongestChain O h
  longest_from zero most = (0, le_refl _, record { chain = []; is_chain = record { elements = tt; distinct = tt; ordered = tt }; is_long = refl; longest = most })
  longest_from (suc d) most = go (find O.size (suc d) (Chain O) chain?) (longest_from d)
    where
      go : ((l : List ℕ) × (length l ≡ suc d) × Chain O l) ⊎ ((l : List ℕ) → length l ≡ suc d → All (λ a. a < O.size) l → ¬ Chain O l) → (((l : List ℕ) → Chain O l → length l ≤ d) → (h : ℕ) × (h ≤ d) × LongestChain O h) → (h : ℕ) × (h ≤ suc d) × LongestChain O h
      go (inl w) f = (suc d, le_refl _, record { chain = w.0; is_chain = w.2; is_long = w.1; longest = most })
      go (inr none) f = let w = f (λ l c. let x : ¬ (length l ≡ suc d) = λ e. none l e (below-size l c) c in omega (arith, most l c)) in (w.0, omega (arith, w.1), w.2)

  pub longest_chain : (h : ℕ) × (h ≤ O.size) × LongestChain O h
  longest_chain = longest_from O.size chain_most
