-- Theorem 1: bounds, monotonicity and distribution of finite meets and joins, the De Morgan laws, and the laws of → and ↔.
-- Rests on Lattice, Test.
--   big_meet_cong, big_join_cong: equal entries, equal results
--   meet_mono, join_mono, meet_swap, dist_join, de_morgan_join, de_morgan_meet, neg-top, neg-bot: of two elements
--   big_meet_le, big_meet_glb, big_join_ge, big_join_lub: the bounds; big_meet-element, big_join-element; big_meet_mono, big_join_mono
--   join-big_meet, meet-big_join: distribution; neg-big_meet, neg-big_join: De Morgan
--   imp_mono, imp-bot, imp-top, imp-neg, imp-meet, imp-join, iff_l, iff_r: of → and ↔
use Prim.Native.Nat.{ℕ, zero, suc, ◌<◌}
use Rattle.std.specs.Prelude.{◌≡◌}
use Rattle.std.proofs.Math.Path.{refl}
use Rattle.std.proofs.Common.{le_refl, not-suc-le-zero, arith}
use Rattle.theory.specs.Lattice.{Ops, Laws, AtMost, Element, imp, iff, big_meet, big_join}
use Rattle.theory.specs.TestLaws.{below_suc}

module _ {A : Type 0} (O : Ops A) where
  -- equal entries, equal results
  pub big_meet_cong : (n : ℕ) (f g : ℕ → A) → ((i : ℕ) → i < n → f i ≡ g i) → big_meet O n f ≡ big_meet O n g
  unfolding big_meet
  big_meet_cong zero f g h = refl
  big_meet_cong (suc n) f g h = cc (big_meet_cong n f g (λ i l. h i (omega arith)), h n (le_refl _))

  pub big_join_cong : (n : ℕ) (f g : ℕ → A) → ((i : ℕ) → i < n → f i ≡ g i) → big_join O n f ≡ big_join O n g
  unfolding big_join
  big_join_cong zero f g h = refl
  big_join_cong (suc n) f g h = cc (big_join_cong n f g (λ i l. h i (omega arith)), h n (le_refl _))

module _ {A : Type 0} {O : Ops A} (L : Laws O) where
  open O use {meet as ◌⊓◌, join as ◌⊔◌, neg, top, bot}
  open L use {rfl, trans, antisym, meet_l, meet_r, meet_glb, join_l, join_r, join_lub, dist, neg_anti, neg_in, neg_out, top_max, bot_min, meet-element, join-element, neg-element, top-element, bot-element}

  abbrev ◌⊑◌ : A → A → Type 0
  ◌⊑◌ a b = AtMost O a b

  infix 40 ◌⊑◌
  infixl 70 ◌⊓◌
  infixl 60 ◌⊔◌
  pub meet_mono : {a b c d : A} → a ⊑ c → b ⊑ d → a ⊓ b ⊑ c ⊓ d
  meet_mono p q = meet_glb (trans (meet_l _ _) p) (trans (meet_r _ _) q)

  pub join_mono : {a b c d : A} → a ⊑ c → b ⊑ d → a ⊔ b ⊑ c ⊔ d
  join_mono p q = join_lub (trans p (join_l _ _)) (trans q (join_r _ _))

  pub meet_swap : (a b : A) → a ⊓ b ⊑ b ⊓ a
  meet_swap a b = meet_glb (meet_r _ _) (meet_l _ _)

  -- the other distributive law
  pub dist_join : (a b c : A) → (a ⊔ b) ⊓ (a ⊔ c) ⊑ a ⊔ b ⊓ c
  dist_join a b c =
      trans (dist _ _ _)
      (join_lub (trans (meet_r _ _) (join_l _ _)) (trans (meet_swap _ _) (trans (dist _ _ _) (join_mono (meet_r _ _) (meet_swap _ _)))))

  -- ---- the De Morgan laws

  pub de_morgan_join : (a b : A) → neg (a ⊔ b) ≡ neg a ⊓ neg b
  de_morgan_join a b =
      antisym (neg-element _) (meet-element _ _)
      (meet_glb (neg_anti (join_l _ _)) (neg_anti (join_r _ _)))
      (trans (neg_in _) (neg_anti (join_lub (trans (neg_in a) (neg_anti (meet_l _ _))) (trans (neg_in b) (neg_anti (meet_r _ _))))))

  pub de_morgan_meet : (a b : A) → neg (a ⊓ b) ≡ neg a ⊔ neg b
  de_morgan_meet a b =
      antisym (neg-element _) (join-element _ _)
      (trans (neg_anti (meet_glb (trans (neg_anti (join_l _ _)) (neg_out a)) (trans (neg_anti (join_r _ _)) (neg_out b)))) (neg_out _))
      (join_lub (neg_anti (meet_l _ _)) (neg_anti (meet_r _ _)))

  pub neg-top : neg top ≡ bot
  neg-top = antisym (neg-element _) bot-element (trans (neg_anti (top_max (neg bot))) (neg_out bot)) (bot_min _)

  pub neg-bot : neg bot ≡ top
  neg-bot = antisym (neg-element _) top-element (top_max _) (trans (neg_in top) (neg_anti (bot_min _)))

  -- ---- finite meets and joins: bounds

  pub big_meet_le : (n : ℕ) (f : ℕ → A) (i : ℕ) → i < n → big_meet O n f ⊑ f i
  unfolding big_meet
  big_meet_le zero f i h = absurd (not-suc-le-zero h)
  big_meet_le (suc n) f i h = below_suc {P = λ j. big_meet O n f ⊓ f n ⊑ f j} (λ j l. trans (meet_l _ _) (big_meet_le n f j l)) (meet_r _ _) i h

  pub big_meet_glb : (n : ℕ) (f : ℕ → A) (c : A) → ((i : ℕ) → i < n → c ⊑ f i) → c ⊑ big_meet O n f
  unfolding big_meet
  big_meet_glb zero f c h = top_max c
  big_meet_glb (suc n) f c h = meet_glb (big_meet_glb n f c (λ i l. h i (omega arith))) (h n (le_refl _))

  pub big_join_ge : (n : ℕ) (f : ℕ → A) (i : ℕ) → i < n → f i ⊑ big_join O n f
  unfolding big_join
  big_join_ge zero f i h = absurd (not-suc-le-zero h)
  big_join_ge (suc n) f i h = below_suc {P = λ j. f j ⊑ big_join O n f ⊔ f n} (λ j l. trans (big_join_ge n f j l) (join_l _ _)) (join_r _ _) i h

  pub big_join_lub : (n : ℕ) (f : ℕ → A) (c : A) → ((i : ℕ) → i < n → f i ⊑ c) → big_join O n f ⊑ c
  unfolding big_join
  big_join_lub zero f c h = bot_min c
  big_join_lub (suc n) f c h = join_lub (big_join_lub n f c (λ i l. h i (omega arith))) (h n (le_refl _))

  pub big_meet-element : (n : ℕ) (f : ℕ → A) → Element O (big_meet O n f)
  unfolding big_meet
  big_meet-element zero f = top-element
  big_meet-element (suc n) f = meet-element _ _

  pub big_join-element : (n : ℕ) (f : ℕ → A) → Element O (big_join O n f)
  unfolding big_join
  big_join-element zero f = bot-element
  big_join-element (suc n) f = join-element _ _

  -- ---- monotonicity

  pub big_meet_mono : (n : ℕ) {f g : ℕ → A} → ((i : ℕ) → i < n → f i ⊑ g i) → big_meet O n f ⊑ big_meet O n g
  big_meet_mono n {f} {g} h = big_meet_glb n g _ (λ i l. trans (big_meet_le n f i l) (h i l))

  pub big_join_mono : (n : ℕ) {f g : ℕ → A} → ((i : ℕ) → i < n → f i ⊑ g i) → big_join O n f ⊑ big_join O n g
  big_join_mono n {f} {g} h = big_join_lub n f _ (λ i l. trans (h i l) (big_join_ge n g i l))

  -- ---- distribution and De Morgan, as equations

  join-meets : (n : ℕ) (a : A) (f : ℕ → A) → big_meet O n (λ i. a ⊔ f i) ⊑ a ⊔ big_meet O n f
  unfolding big_meet
  join-meets zero a f = join_r _ _
  join-meets (suc n) a f = trans (meet_mono (join-meets n a f) (rfl _)) (dist_join _ _ _)

  pub join-big_meet : (n : ℕ) (a : A) (f : ℕ → A) → a ⊔ big_meet O n f ≡ big_meet O n (λ i. a ⊔ f i)
  join-big_meet n a f =
      antisym (join-element _ _) (big_meet-element n _)
      (big_meet_glb n _ _ (λ i l. join_mono (rfl a) (big_meet_le n f i l)))
      (join-meets n a f)

  joins-meet : (n : ℕ) (a : A) (f : ℕ → A) → a ⊓ big_join O n f ⊑ big_join O n (λ i. a ⊓ f i)
  unfolding big_join
  joins-meet zero a f = meet_r _ _
  joins-meet (suc n) a f = trans (dist _ _ _) (join_mono (joins-meet n a f) (rfl _))

  pub meet-big_join : (n : ℕ) (a : A) (f : ℕ → A) → a ⊓ big_join O n f ≡ big_join O n (λ i. a ⊓ f i)
  meet-big_join n a f =
      antisym (meet-element _ _) (big_join-element n _)
      (joins-meet n a f)
      (big_join_lub n _ _ (λ i l. meet_mono (rfl a) (big_join_ge n f i l)))

  pub neg-big_meet : (n : ℕ) (f : ℕ → A) → neg (big_meet O n f) ≡ big_join O n (λ i. neg (f i))
  unfolding big_meet big_join
  neg-big_meet zero f = neg-top
  neg-big_meet (suc n) f = rw (de_morgan_meet, neg-big_meet n f)

  pub neg-big_join : (n : ℕ) (f : ℕ → A) → neg (big_join O n f) ≡ big_meet O n (λ i. neg (f i))
  unfolding big_meet big_join
  neg-big_join zero f = neg-bot
  neg-big_join (suc n) f = rw (de_morgan_join, neg-big_join n f)

  -- ---- implication

  pub imp_mono : {a b c d : A} → c ⊑ a → b ⊑ d → imp O a b ⊑ imp O c d
  unfolding imp
  imp_mono p q = join_mono (neg_anti p) q

  -- bottom implies anything, anything implies top
  pub imp-bot : (a c : A) → c ⊑ imp O bot a
  unfolding imp
  imp-bot a c = trans (top_max c) (rw (← neg-bot) (join_l _ _))

  pub imp-top : (a c : A) → c ⊑ imp O a top
  unfolding imp
  imp-top a c = trans (top_max c) (join_r _ _)

  -- implication of complements, the other way round
  pub imp-neg : (a b : A) → imp O a b ⊑ imp O (neg b) (neg a)
  unfolding imp
  imp-neg a b = join_lub (join_r _ _) (trans (neg_in b) (join_l _ _))

  -- → is preserved by meet and by join on both sides
  pub imp-meet : (a b c d : A) → imp O a b ⊓ imp O c d ⊑ imp O (a ⊓ c) (b ⊓ d)
  unfolding imp
  imp-meet a b c d = trans (meet_mono (join_mono (neg_anti (meet_l a c)) (rfl b)) (join_mono (neg_anti (meet_r a c)) (rfl d))) (dist_join _ _ _)

  pub imp-join : (a b c d : A) → imp O a b ⊓ imp O c d ⊑ imp O (a ⊔ c) (b ⊔ d)
  unfolding imp
  imp-join a b c d =
      trans
      (meet_mono (join_lub (join_r _ _) (trans (join_l b d) (join_l _ _))) (join_lub (join_r _ _) (trans (join_r b d) (join_l _ _))))
      (trans (dist_join (b ⊔ d) (neg a) (neg c)) (join_lub (join_r _ _) (rw de_morgan_join (join_l _ _))))

  pub iff_l : (a b : A) → iff O a b ⊑ imp O a b
  unfolding iff
  iff_l a b = meet_l _ _

  pub iff_r : (a b : A) → iff O a b ⊑ imp O b a
  unfolding iff
  iff_r a b = meet_r _ _
