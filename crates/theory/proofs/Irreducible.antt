-- Join-irreducible elements. Rests on Lattice, TestLaws, Finite.
-- The definitions are in specs/Irreducible.
--   below-join, below-big_join: at or below a join, such an element is at or below one of its members
--   dense, determined: an element is determined by those at or below it
use Prim.Native.Nat.{ℕ, zero, suc, ◌+◌, ◌<◌}
use Rattle.std.specs.Prelude.{◌≡◌, ◌⊎◌, ◌≢◌, List, [], ◌∷◌, length}
use Rattle.std.proofs.Common.{sym, ◌∙◌, inl, inr, arith}
use Rattle.std.proofs.Math.Logic.{⊎_elim}
use Rattle.std.proofs.Math.Nat.{le_refl}
use Rattle.theory.specs.Lattice.{Ops, Laws, AtMost, Element, All, Pairwise, big_join}
use Rattle.theory.specs.TestLaws.{decide}
use Rattle.theory.specs.Finite.{all_map}
use Rattle.theory.specs.Irreducible.{JoinIrreducible}

module _ {A : Type 0} {O : Ops A} (L : Laws O) where
  -- ---- l at or below a join is at or below one of its members

  module _ {l : A} (j : JoinIrreducible O l) where
    pub below-join : (a b : A) → AtMost O l (O.join a b) → AtMost O l a ⊎ AtMost O l b
    below-join a b w = go (decide (O.at_most l a)) (decide (O.at_most l b))
      where
        -- l is the join of its meets with a and with b
        parts : l ≡ O.join (O.meet l a) (O.meet l b)
        parts = L.antisym j.is_element (L.join-element _ _) (L.trans (L.meet_glb (L.rfl l) w) (L.dist l a b)) (L.join_lub (L.meet_l _ _) (L.meet_l _ _))

        unlike : (c : A) → ¬ AtMost O l c → O.meet l c ≢ l
        unlike c n e = n (L.trans (rw e (L.rfl _)) (L.meet_r l c))

        go : AtMost O l a ⊎ (¬ AtMost O l a) → AtMost O l b ⊎ (¬ AtMost O l b) → AtMost O l a ⊎ AtMost O l b
        go (inl p) e = inl p
        go (inr p) (inl q) = inr q
        go (inr p) (inr q) = absurd (j.no_join _ _ (L.meet-element l a) (L.meet-element l b) (unlike a p) (unlike b q) parts)

    pub below-big_join : (n : ℕ) (f : ℕ → A) → AtMost O l (big_join O n f) → (i : ℕ) × (i < n) × AtMost O l (f i)
    unfolding big_join
    below-big_join zero f w = absurd (j.not_bottom (L.antisym j.is_element L.bot-element w (L.bot_min l)))
    below-big_join (suc n) f w = ⊎_elim (λ p. let v = below-big_join n f p in (v.0, omega (arith, v.1), v.2)) (λ p. (n, le_refl _, p)) (below-join _ _ w)

  -- ---- an element is determined by the join-irreducible elements at or below it

  module _ (a b : A) (h : (l : A) → JoinIrreducible O l → AtMost O l a → AtMost O l b) where
    -- An element x at or below a is at or below b: if it were not, it would be join-irreducible, since the elements below it are at or below b.
    -- s has distinct elements at or above x, and so at most n of them; d falls as s grows.
    dense_from : (d : ℕ) (x : A) → Element O x → AtMost O x a → (s : List A) → All (λ y. Element O y × AtMost O x y) s → Pairwise (λ y z. y ≢ z) s → O.size < length s + d → AtMost O x b
    dense_from zero x e w s p q k = absurd (omega (arith, L.finite s (all_map _ _ (λ y t. t.0) s p) q))
    dense_from (suc d) x e w s p q k = ⊎_elim (λ t. t) (λ n. h x (irreducible n (dense_from d)) w) (decide (O.at_most x b))
      where
        Before : Type 0
        Before = (y : A) → Element O y → AtMost O y a → (s : List A) → All (λ z. Element O z × AtMost O y z) s → Pairwise (λ z t. z ≢ t) s → O.size < length s + d → AtMost O y b

        part : Before → (y : A) → Element O y → AtMost O y x → y ≢ x → AtMost O y b
        part ih y f m u =
            ih y f (L.trans m w) (y ∷ s)
            ((f, L.rfl y), all_map _ _ (λ z t. (t.0, L.trans m t.1)) s p)
            (all_map _ _ (λ z t v. u (L.antisym f e m (rw v t.1))) s p, q)
            (omega arith)

        irreducible : ¬ AtMost O x b → Before → JoinIrreducible O x
        irreducible n ih = record {
          is_element = e;
          not_bottom = λ t. n (rw t (L.bot_min b));
          no_join = λ y z f g u v t. n (rw t (L.join_lub (part ih y f (rw t (L.join_l y z)) u) (part ih z g (rw t (L.join_r y z)) v)));
        }

    -- if every join-irreducible element at or below a is at or below b, so is a
    pub dense : Element O a → AtMost O a b
    dense e = dense_from O.size a e (L.rfl a) (a ∷ []) ((e, L.rfl a), tt) (tt, tt) (omega arith)

  -- two elements with the same join-irreducible elements at or below them are one
  pub determined : (a b : A) → Element O a → Element O b → ((l : A) → JoinIrreducible O l → O.at_most l a ≡ O.at_most l b) → a ≡ b
  determined a b e f h = L.antisym e f (dense a b (λ l j t. sym (h l j) ∙ t) e) (dense b a (λ l j t. h l j ∙ t) f)
