-- Theorem 2, its first part: a value reads maps and environments only at the states and the variables in scope, and is monotone in them.
-- Rests on Value, Folds.
-- The definitions are in specs/Monotone.
--   all_next_cong, some_next_cong, eval_cong, body_cong: maps that agree at the states have the same values
--   iterate_stays: once an application changes nothing at the states, no later one does
--   all_next_mono, some_next_mono, eval_mono, body_mono: greater maps have greater values
--   chain-size: no chain has more than n elements
use Prim.Native.Nat.{ℕ, zero, suc, ◌≤◌, ◌<◌}
use Rattle.std.specs.Prelude.{◌≡◌, true, List, length}
use Rattle.std.proofs.Math.Path.{refl, ap₂}
use Rattle.std.proofs.Common.{◌∙◌, arith, ltb-true}
use Rattle.std.proofs.Math.Decide.{le_ind}
use Rattle.theory.specs.Lattice.{Ops, Laws, AtMost, Chain}
use Rattle.theory.specs.Model.{Model}
use Rattle.theory.specs.Formula.{Formula, bottom, top, prop, negated, var, or, and, AX, EX, mu, nu, closed_under}
use Rattle.theory.specs.Value.{iterate, bind, all_next, some_next, eval, SameMap, AtMostMap}
use Rattle.theory.specs.Folds.{meet_mono, join_mono, imp_mono, big_meet_mono, big_join_mono, big_meet_cong, big_join_cong}
use Rattle.theory.specs.TestLaws.{and_l, and_r}
use Rattle.theory.specs.Monotone.{SameEnv, AtMostEnv}

-- ---- a value reads maps and environments only at the states, and an environment only at the variables in scope

module _ {A : Type 0} (O : Ops A) (M : Model A) where
  pub all_next_cong : (f g : ℕ → A) → SameMap O M f g → (q : ℕ) → all_next O M f q ≡ all_next O M g q
  unfolding all_next
  all_next_cong f g h q = big_meet_cong O M.states _ _ (λ r l. rw (h r l))

  pub some_next_cong : (f g : ℕ → A) → SameMap O M f g → (q : ℕ) → some_next O M f q ≡ some_next O M g q
  unfolding some_next
  some_next_cong f g h q = big_join_cong O M.states _ _ (λ r l. rw (h r l))

  bind_cong : (d : ℕ) (e e' : ℕ → ℕ → A) (x y : ℕ → A) → SameMap O M x y → SameEnv O M d e e' → SameEnv O M (suc d) (bind x e) (bind y e')
  unfolding bind
  bind_cong d e e' x y b h zero l = b
  bind_cong d e e' x y b h (suc v) l = h v (omega arith)

  iterate_cong : (g g' : (ℕ → A) → ℕ → A) → ((x y : ℕ → A) → SameMap O M x y → SameMap O M (g x) (g' y)) → (x : ℕ → A) (t : ℕ) → SameMap O M (iterate t g x) (iterate t g' x)
  unfolding iterate
  iterate_cong g g' h x zero q l = refl
  iterate_cong g g' h x (suc t) q l = h _ _ (iterate_cong g g' h x t) q l

  pub eval_cong : (K d : ℕ) (φ : Formula) → closed_under d φ ≡ true → (e e' : ℕ → ℕ → A) → SameEnv O M d e e' → SameMap O M (eval O M K φ e) (eval O M K φ e')
  unfolding eval closed_under
  eval_cong K d bottom b e e' h q l = refl
  eval_cong K d top b e e' h q l = refl
  eval_cong K d (prop p) b e e' h q l = refl
  eval_cong K d (negated p) b e e' h q l = refl
  eval_cong K d (var v) b e e' h q l = h v (ltb-true v d b) q l
  eval_cong K d (or f g) b e e' h q l = ap₂ O.join (eval_cong K d f (and_l _ (closed_under d g) b) e e' h q l) (eval_cong K d g (and_r (closed_under d f) _ b) e e' h q l)
  eval_cong K d (and f g) b e e' h q l = ap₂ O.meet (eval_cong K d f (and_l _ (closed_under d g) b) e e' h q l) (eval_cong K d g (and_r (closed_under d f) _ b) e e' h q l)
  eval_cong K d (AX f) b e e' h q l = all_next_cong _ _ (eval_cong K d f b e e' h) q
  eval_cong K d (EX f) b e e' h q l = some_next_cong _ _ (eval_cong K d f b e e' h) q
  eval_cong K d (mu f) b e e' h q l = iterate_cong _ _ (λ x y s. eval_cong K (suc d) f b _ _ (bind_cong d e e' x y s h)) _ K q l
  eval_cong K d (nu f) b e e' h q l = iterate_cong _ _ (λ x y s. eval_cong K (suc d) f b _ _ (bind_cong d e e' x y s h)) _ K q l

  -- a body reads its own map only at the states
  pub body_cong : (K d : ℕ) (f : Formula) → closed_under (suc d) f ≡ true → (e : ℕ → ℕ → A) (x y : ℕ → A) → SameMap O M x y → SameMap O M (eval O M K f (bind x e)) (eval O M K f (bind y e))
  body_cong K d f b e x y h = eval_cong K (suc d) f b _ _ (bind_cong d e e x y h (λ v l q m. refl))

  -- once an application of g changes nothing at the states, no later one does
  pub iterate_stays : (g : (ℕ → A) → ℕ → A) → ((x y : ℕ → A) → SameMap O M x y → SameMap O M (g x) (g y)) → (x : ℕ → A) (r : ℕ) → SameMap O M (iterate (suc r) g x) (iterate r g x) → (t : ℕ) → r ≤ t → SameMap O M (iterate t g x) (iterate r g x)
  unfolding iterate
  iterate_stays g same x r still = le_ind (λ t. SameMap O M (iterate t g x) (iterate r g x)) (λ q l. refl) (λ t b h q l. same _ _ h q l ∙ still q l)

module _ {A : Type 0} {O : Ops A} (L : Laws O) where
  -- no chain has more than n elements
  pub chain-size : (l : List A) → Chain O l → length l ≤ O.size
  chain-size l c = L.finite l c.elements c.distinct

  pub all_next_mono : (M : Model A) {f g : ℕ → A} → ((q : ℕ) → q < M.states → AtMost O (f q) (g q)) → (q : ℕ) → AtMost O (all_next O M f q) (all_next O M g q)
  unfolding all_next
  all_next_mono M h q = big_meet_mono L M.states (λ r l. imp_mono L (L.rfl _) (h r l))

  pub some_next_mono : (M : Model A) {f g : ℕ → A} → ((q : ℕ) → q < M.states → AtMost O (f q) (g q)) → (q : ℕ) → AtMost O (some_next O M f q) (some_next O M g q)
  unfolding some_next
  some_next_mono M h q = big_join_mono L M.states (λ r l. meet_mono L (L.rfl _) (h r l))

module _ {A : Type 0} {O : Ops A} (L : Laws O) (M : Model A) where
  pub bind_mono : (e d : ℕ → ℕ → A) (x y : ℕ → A) → AtMostMap O M x y → AtMostEnv L M e d → AtMostEnv L M (bind x e) (bind y d)
  unfolding bind
  bind_mono e d x y b h zero = b
  bind_mono e d x y b h (suc v) = h v

  iterate_mono : (f g : (ℕ → A) → ℕ → A) → ((x y : ℕ → A) → AtMostMap O M x y → AtMostMap O M (f x) (g y)) → (x : ℕ → A) (t : ℕ) → AtMostMap O M (iterate t f x) (iterate t g x)
  unfolding iterate
  iterate_mono f g h x zero q l = L.rfl _
  iterate_mono f g h x (suc t) q l = h _ _ (iterate_mono f g h x t) q l

  -- ---- values are monotone in the environment

  pub eval_mono : (K : ℕ) (φ : Formula) (e d : ℕ → ℕ → A) → AtMostEnv L M e d → AtMostMap O M (eval O M K φ e) (eval O M K φ d)
  unfolding eval
  eval_mono K bottom e d h q l = L.rfl _
  eval_mono K top e d h q l = L.rfl _
  eval_mono K (prop p) e d h q l = L.rfl _
  eval_mono K (negated p) e d h q l = L.rfl _
  eval_mono K (var v) e d h q l = h v q l
  eval_mono K (or f g) e d h q l = join_mono L (eval_mono K f e d h q l) (eval_mono K g e d h q l)
  eval_mono K (and f g) e d h q l = meet_mono L (eval_mono K f e d h q l) (eval_mono K g e d h q l)
  eval_mono K (AX f) e d h q l = all_next_mono L M (eval_mono K f e d h) q
  eval_mono K (EX f) e d h q l = some_next_mono L M (eval_mono K f e d h) q
  eval_mono K (mu f) e d h q l = iterate_mono _ _ (λ x y b. eval_mono K f _ _ (bind_mono e d x y b h)) _ K q l
  eval_mono K (nu f) e d h q l = iterate_mono _ _ (λ x y b. eval_mono K f _ _ (bind_mono e d x y b h)) _ K q l

  pub body_mono : (K : ℕ) (f : Formula) (e : ℕ → ℕ → A) (x y : ℕ → A) → AtMostMap O M x y → AtMostMap O M (eval O M K f (bind x e)) (eval O M K f (bind y e))
  body_mono K f e x y b = eval_mono K f _ _ (bind_mono e e x y b (λ v q l. L.rfl _))
