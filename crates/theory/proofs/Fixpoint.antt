-- Theorem 2: a fixpoint's value is the least (greatest) map that its body sends to itself; the number of applications of a body does not
-- matter from states * (n - 1) on; so values are those of the latticed mu-calculus. Rests on Value, Calculus, Monotone, Iterates, Descent.
-- The definitions are in specs/Fixpoint.
--   mu_falls, mu_rises, mu_le: the body sends a least fixpoint's value to itself, and what it does not raise lies above
--   nu_rises, nu_falls, nu_ge: the same of a greatest fixpoint, the other way round
--   applications_le, applications-same: any two counts of applications that are enough give the same values
--   eval-element, value_element: values are elements
--   least-fixpoint, greatest-fixpoint: the values of fixpoints, as Value defines them
--   calculus, calculus-unique, value_is: values are those of the calculus, which leaves no choice
use Prim.Native.Nat.{ℕ, zero, suc, ◌≤◌, ◌<◌}
use Rattle.std.specs.Prelude.{◌≡◌, refl, true}
use Rattle.std.proofs.Math.Path.{sym, ap₂}
use Rattle.std.proofs.Common.{◌∙◌, le_refl, not-suc-le-zero, arith, ltb-true}
use Rattle.theory.specs.Lattice.{Ops, Laws, Element}
use Rattle.theory.specs.Model.{Model, Valued}
use Rattle.theory.specs.Formula.{Formula, bottom, top, prop, negated, var, or, and, AX, EX, mu, nu, closed_under, over_props, closed}
use Rattle.theory.specs.Value.{iterate, bind, all_next, some_next, eval, enough, value_at, ToElements, SameMap, AtMostMap, LeastFixpoint, GreatestFixpoint}
use Rattle.theory.specs.Calculus.{Present, Calculus}
use Rattle.theory.specs.Folds.{meet_mono, join_mono, big_meet-element, big_join-element}
use Rattle.theory.specs.TestLaws.{and_l, and_r}
use Rattle.theory.specs.Descent.{downwards, upwards}
use Rattle.theory.proofs.Descent.{first-unlowered, apart-most, apart-most-up}
use Rattle.theory.specs.Monotone.{AtMostEnv}
use Rattle.theory.proofs.Monotone.{bind_mono, body_mono, all_next_mono, some_next_mono}
use Rattle.theory.proofs.Iterates.{iterate-greatest, iterate-falls, iterate_fixed, steps-down}
pub use Rattle.theory.proofs.Monotone.{all_next_cong, some_next_cong, body_cong, iterate_stays, chain-size}
use Rattle.theory.specs.Fixpoint.{body}

module _ {A : Type 0} {O : Ops A} (L : Laws O) (M : Model A) where
  -- ---- the value of a least fixpoint: the body sends it to itself, and whatever the body does not raise lies above it

  pub mu_falls : (K : ℕ) → enough O M ≤ K → (f : Formula) (e : ℕ → ℕ → A) → AtMostMap O M (body L M K f e (eval O M K (mu f) e)) (eval O M K (mu f) e)
  unfolding eval
  mu_falls K w f e =
      iterate_fixed (upwards L) M.states O.bot L.bot_min (body L M K f e) (λ x y. body_mono L M K f e y x) O.size
      (first-unlowered (upwards L) O.size (apart-most-up L O.size (chain-size L)) M.states 1 _ (steps-down (upwards L) M.states O.bot L.bot_min (body L M K f e) (λ x y. body_mono L M K f e y x)))
      K w

  pub mu_rises : (K : ℕ) (f : Formula) (e : ℕ → ℕ → A) → AtMostMap O M (eval O M K (mu f) e) (body L M K f e (eval O M K (mu f) e))
  unfolding eval
  mu_rises K f e = iterate-falls (upwards L) M.states O.bot L.bot_min (body L M K f e) (λ x y. body_mono L M K f e y x) K

  pub mu_le : (K : ℕ) (f : Formula) (e : ℕ → ℕ → A) (y : ℕ → A) → AtMostMap O M (body L M K f e y) y → AtMostMap O M (eval O M K (mu f) e) y
  unfolding eval
  mu_le K f e y w = iterate-greatest (upwards L) M.states O.bot L.bot_min (body L M K f e) (λ x y. body_mono L M K f e y x) y w K

  -- ---- the value of a greatest fixpoint: likewise

  pub nu_rises : (K : ℕ) → enough O M ≤ K → (f : Formula) (e : ℕ → ℕ → A) → AtMostMap O M (eval O M K (nu f) e) (body L M K f e (eval O M K (nu f) e))
  unfolding eval
  nu_rises K w f e =
      iterate_fixed (downwards L) M.states O.top L.top_max (body L M K f e) (body_mono L M K f e) O.size
      (first-unlowered (downwards L) O.size (apart-most L O.size (chain-size L)) M.states 1 _ (steps-down (downwards L) M.states O.top L.top_max (body L M K f e) (body_mono L M K f e)))
      K w

  pub nu_falls : (K : ℕ) (f : Formula) (e : ℕ → ℕ → A) → AtMostMap O M (body L M K f e (eval O M K (nu f) e)) (eval O M K (nu f) e)
  unfolding eval
  nu_falls K f e = iterate-falls (downwards L) M.states O.top L.top_max (body L M K f e) (body_mono L M K f e) K

  pub nu_ge : (K : ℕ) (f : Formula) (e : ℕ → ℕ → A) (y : ℕ → A) → AtMostMap O M y (body L M K f e y) → AtMostMap O M y (eval O M K (nu f) e)
  unfolding eval
  nu_ge K f e y w = iterate-greatest (downwards L) M.states O.top L.top_max (body L M K f e) (body_mono L M K f e) y w K

  -- ---- the count of applications does not matter, where it is enough; J and K may come from models of different sizes

  pub applications_le : (K J : ℕ) → enough O M ≤ K → enough O M ≤ J → (φ : Formula) (e d : ℕ → ℕ → A) → AtMostEnv L M e d → AtMostMap O M (eval O M K φ e) (eval O M J φ d)
  unfolding eval
  applications_le K J u w bottom e d b q l = L.rfl _
  applications_le K J u w top e d b q l = L.rfl _
  applications_le K J u w (prop p) e d b q l = L.rfl _
  applications_le K J u w (negated p) e d b q l = L.rfl _
  applications_le K J u w (var v) e d b q l = b v q l
  applications_le K J u w (or f g) e d b q l = join_mono L (applications_le K J u w f e d b q l) (applications_le K J u w g e d b q l)
  applications_le K J u w (and f g) e d b q l = meet_mono L (applications_le K J u w f e d b q l) (applications_le K J u w g e d b q l)
  applications_le K J u w (AX f) e d b q l = all_next_mono L M (applications_le K J u w f e d b) q
  applications_le K J u w (EX f) e d b q l = some_next_mono L M (applications_le K J u w f e d b) q
  applications_le K J u w (mu f) e d b q l = mu_le K f e _ (λ r m. L.trans (applications_le K J u w f _ _ (bind_mono L M e d _ _ (λ x y. L.rfl _) b) r m) (mu_falls J w f d r m)) q l
  applications_le K J u w (nu f) e d b q l = nu_ge J f d _ (λ r m. L.trans (nu_rises K u f e r m) (applications_le K J u w f _ _ (bind_mono L M e d _ _ (λ x y. L.rfl _) b) r m)) q l

  -- ---- values are elements, so that all of this is equality

  module _ (ok : Valued O M) where
    bind-element : (d : ℕ) (e : ℕ → ℕ → A) (x : ℕ → A) → ToElements O M x → Present O M d e → Present O M (suc d) (bind x e)
    unfolding bind
    bind-element d e x b h zero l = b
    bind-element d e x b h (suc v) l = h v (omega arith)

    iterate-element : (g : (ℕ → A) → ℕ → A) (x : ℕ → A) → ((y : ℕ → A) → ((q : ℕ) → q < M.states → Element O (y q)) → (q : ℕ) → q < M.states → Element O (g y q)) → ((q : ℕ) → q < M.states → Element O (x q)) → (t q : ℕ) → q < M.states → Element O (iterate t g x q)
    unfolding iterate
    iterate-element g x h b zero q l = b q l
    iterate-element g x h b (suc t) q l = h _ (iterate-element g x h b t) q l

    pub eval-element : (K d : ℕ) (φ : Formula) → closed_under d φ ≡ true → over_props M.propositions φ ≡ true → (e : ℕ → ℕ → A) → Present O M d e → (q : ℕ) → q < M.states → Element O (eval O M K φ e q)
    unfolding eval closed_under over_props all_next some_next
    eval-element K d bottom b o e h q l = L.bot-element
    eval-element K d top b o e h q l = L.top-element
    eval-element K d (prop p) b o e h q l = ok.label_element q l p (ltb-true _ _ o)
    eval-element K d (negated p) b o e h q l = L.neg-element _
    eval-element K d (var v) b o e h q l = h v (ltb-true _ _ b) q l
    eval-element K d (or f g) b o e h q l = L.join-element _ _
    eval-element K d (and f g) b o e h q l = L.meet-element _ _
    eval-element K d (AX f) b o e h q l = big_meet-element L _ _
    eval-element K d (EX f) b o e h q l = big_join-element L _ _
    eval-element K d (mu f) b o e h q l = iterate-element _ _ (λ y w. eval-element K (suc d) f b o _ (bind-element d e y w h)) (λ r m. L.bot-element) K q l
    eval-element K d (nu f) b o e h q l = iterate-element _ _ (λ y w. eval-element K (suc d) f b o _ (bind-element d e y w h)) (λ r m. L.top-element) K q l

    module _ (d : ℕ) (f : Formula) (b : closed_under (suc d) f ≡ true) (o : over_props M.propositions f ≡ true) (e : ℕ → ℕ → A) (h : Present O M d e) (K : ℕ) (w : enough O M ≤ K) where
      values : (φ : Formula) → closed_under d φ ≡ true → over_props M.propositions φ ≡ true → ToElements O M (eval O M K φ e)
      values φ c p = eval-element K d φ c p e h

      inside : (x : ℕ → A) → ToElements O M x → ToElements O M (body L M K f e x)
      inside x v = eval-element K (suc d) f b o _ (bind-element d e x v h)

      -- the value of a least fixpoint; that it lies at or below every prefixed map, too, is mu-le
      pub least-fixpoint : LeastFixpoint O M (body L M K f e) (eval O M K (mu f) e)
      unfolding closed_under over_props
      least-fixpoint =
          record {
            elements = values (mu f) b o;
            fixed = λ q l. L.antisym (inside _ (values (mu f) b o) q l) (values (mu f) b o q l) (mu_falls K w f e q l) (mu_rises K f e q l);
            least = λ y i s. mu_le K f e y (λ q l. rw (s q l) (L.rfl _));
          }

      -- and of a greatest; for postfixed maps: nu-ge
      pub greatest-fixpoint : GreatestFixpoint O M (body L M K f e) (eval O M K (nu f) e)
      unfolding closed_under over_props
      greatest-fixpoint =
          record {
            elements = values (nu f) b o;
            fixed = λ q l. L.antisym (inside _ (values (nu f) b o) q l) (values (nu f) b o q l) (nu_falls K f e q l) (nu_rises K w f e q l);
            greatest = λ y i s. nu_ge K f e y (λ q l. rw (s q l) (L.rfl _));
          }

    -- values by enough applications are those of the calculus
    pub calculus : (K : ℕ) → enough O M ≤ K → Calculus O M (eval O M K)
    unfolding eval
    calculus K w =
        record {
          of_bottom = λ e q. refl;
          of_top = λ e q. refl;
          of_prop = λ p e q. refl;
          of_negated = λ p e q. refl;
          of_var = λ v e q. refl;
          of_or = λ f g e q. refl;
          of_and = λ f g e q. refl;
          of_AX = λ f e q. refl;
          of_EX = λ f e q. refl;
          of_mu = λ d f b o e h. least-fixpoint d f b o e h K w;
          of_nu = λ d f b o e h. greatest-fixpoint d f b o e h K w;
        }

    -- the same value for every count that is enough
    pub applications-same : (K J d : ℕ) → enough O M ≤ K → enough O M ≤ J → (φ : Formula) → closed_under d φ ≡ true → over_props M.propositions φ ≡ true → (e : ℕ → ℕ → A) → Present O M d e → (q : ℕ) → q < M.states → eval O M K φ e q ≡ eval O M J φ e q
    applications-same K J d u w φ b o e h q l =
        L.antisym (eval-element K d φ b o e h q l) (eval-element J d φ b o e h q l)
        (applications_le K J u w φ e e (λ v r m. L.rfl _) q l) (applications_le J K w u φ e e (λ v r m. L.rfl _) q l)

    pub value_element : (φ : Formula) → closed_under 0 φ ≡ true → over_props M.propositions φ ≡ true → (q : ℕ) → q < M.states → Element O (value_at O M φ q)
    unfolding value_at
    value_element φ b o = eval-element (enough O M) 0 φ b o _ (λ v l. absurd (not-suc-le-zero l))

    -- ---- the calculus leaves no choice: two functions that are its values agree

    module _ (u v : Formula → (ℕ → ℕ → A) → ℕ → A) (one : Calculus O M u) (two : Calculus O M v) where
      -- two maps that are least, of bodies that agree at maps to elements
      same-least : (f g : (ℕ → A) → ℕ → A) → ((y : ℕ → A) → ToElements O M y → SameMap O M (f y) (g y)) → (x y : ℕ → A) → LeastFixpoint O M f x → LeastFixpoint O M g y → SameMap O M x y
      same-least f g s x y a b q l =
          L.antisym (a.elements q l) (b.elements q l)
          (a.least y b.elements (λ i j. s y b.elements i j ∙ b.fixed i j) q l)
          (b.least x a.elements (λ i j. sym (s x a.elements i j) ∙ a.fixed i j) q l)

      same_greatest : (f g : (ℕ → A) → ℕ → A) → ((y : ℕ → A) → ToElements O M y → SameMap O M (f y) (g y)) → (x y : ℕ → A) → GreatestFixpoint O M f x → GreatestFixpoint O M g y → SameMap O M x y
      same_greatest f g s x y a b q l =
          L.antisym (a.elements q l) (b.elements q l)
          (b.greatest x a.elements (λ i j. sym (s x a.elements i j) ∙ a.fixed i j) q l)
          (a.greatest y b.elements (λ i j. s y b.elements i j ∙ b.fixed i j) q l)

      pub calculus-unique : (d : ℕ) (φ : Formula) → closed_under d φ ≡ true → over_props M.propositions φ ≡ true → (e : ℕ → ℕ → A) → Present O M d e → SameMap O M (u φ e) (v φ e)
      unfolding closed_under over_props
      calculus-unique d bottom b o e h q l = one.of_bottom e q ∙ sym (two.of_bottom e q)
      calculus-unique d top b o e h q l = one.of_top e q ∙ sym (two.of_top e q)
      calculus-unique d (prop p) b o e h q l = one.of_prop p e q ∙ sym (two.of_prop p e q)
      calculus-unique d (negated p) b o e h q l = one.of_negated p e q ∙ sym (two.of_negated p e q)
      calculus-unique d (var i) b o e h q l = one.of_var i e q ∙ sym (two.of_var i e q)
      calculus-unique d (or f g) b o e h q l =
          one.of_or f g e q
          ∙ ap₂ O.join (calculus-unique d f (and_l _ (closed_under d g) b) (and_l _ (over_props M.propositions g) o) e h q l) (calculus-unique d g (and_r (closed_under d f) _ b) (and_r (over_props M.propositions f) _ o) e h q l)
          ∙ sym (two.of_or f g e q)
      calculus-unique d (and f g) b o e h q l =
          one.of_and f g e q
          ∙ ap₂ O.meet (calculus-unique d f (and_l _ (closed_under d g) b) (and_l _ (over_props M.propositions g) o) e h q l) (calculus-unique d g (and_r (closed_under d f) _ b) (and_r (over_props M.propositions f) _ o) e h q l)
          ∙ sym (two.of_and f g e q)
      calculus-unique d (AX f) b o e h q l = one.of_AX f e q ∙ all_next_cong O M _ _ (calculus-unique d f b o e h) q ∙ sym (two.of_AX f e q)
      calculus-unique d (EX f) b o e h q l = one.of_EX f e q ∙ some_next_cong O M _ _ (calculus-unique d f b o e h) q ∙ sym (two.of_EX f e q)
      calculus-unique d (mu f) b o e h q l = same-least _ _ (λ y w. calculus-unique (suc d) f b o (bind y e) (bind-element d e y w h)) _ _ (one.of_mu d f b o e h) (two.of_mu d f b o e h) q l
      calculus-unique d (nu f) b o e h q l = same_greatest _ _ (λ y w. calculus-unique (suc d) f b o (bind y e) (bind-element d e y w h)) _ _ (one.of_nu d f b o e h) (two.of_nu d f b o e h) q l

    -- demand 2: 'Formula values are those of the latticed mu-calculus'. A closed formula has no outer variables, so any will do.
    pub value_is : (φ : Formula) → closed φ ≡ true → over_props M.propositions φ ≡ true → (u : Formula → (ℕ → ℕ → A) → ℕ → A) → Calculus O M u → SameMap O M (value_at O M φ) (u φ (λ v q. O.bot))
    unfolding value_at
    value_is φ b o u c = calculus-unique _ u (calculus (enough O M) (le_refl _)) c 0 φ b o _ (λ v l. absurd (not-suc-le-zero l))
