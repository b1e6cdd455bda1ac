-- The elements whose bits stand in the codes are exactly the join-irreducible ones. Rests on theory's Irreducible, lattice_order's Ordered and Searched,
-- elements' Bits, Tests, Birkhoff.
--   irreducible-exactly: the test on the words is theory's definition
use Rattle.std.specs.Prelude.{ℕ, zero, suc, ◌≤◌, ◌<◌, ◌≡◌, refl, Bool, true, false, ◌↔◌}
use Rattle.std.proofs.Common.{sym, ap₂, ◌∙◌, le_refl, not-suc-le-zero, arith, ltb-true, lt-ltb}
use Rattle.theory.specs.Irreducible.{JoinIrreducible}
use Rattle.theory.specs.Part.{LatticePart, join_of, bot_of, ops_of}
use Rattle.theory.specs.TestLaws.{below_suc, bool_same, false_true}
use Rattle.lattice_order.specs.Searched.{element_id, bot-reversed, TopAt}
use Rattle.lattice_order.specs.DeMorgan.{reversed}
use Rattle.lattice_order.specs.Ordered.{Formed, Ordered, MeetsJoinsFound, ordered-reversed, meets_and_joins-reversed, join_at, top_is, top_found}
use Rattle.elements.specs.Bits.{without, without_in, without_l, without_r}
use Rattle.lattice_codes.specs.Tests.{down_of, irreducible}
use Rattle.lattice_codes.specs.Birkhoff.{Irreducible}
use Rattle.lattice_codes.proofs.Birkhoff.{irreducible_in, irreducible_out}

module _ (P : LatticePart) (f : Formed P) (o : Ordered P) (w : MeetsJoinsFound P) where
  bot_at : TopAt (reversed P) (bot_of P)
  bot_at =
      rw (bot-reversed P, top_found (reversed P) f.some (ordered-reversed P o) (meets_and_joins-reversed P w))
      (top_is (reversed P) f.some (ordered-reversed P o) (meets_and_joins-reversed P w))

  -- the join of the operations, of two elements
  join_is : (a b : ℕ) → a < P.size → b < P.size → (ops_of P).join a b ≡ join_of P a b
  join_is a b l m = ap₂ (join_of P) (element_id P.size a f.most l) (element_id P.size b f.most m)

  module _ (e : ℕ) (k : e < P.size) where
    abbrev under : ℕ → Bool
    under = without (λ i. P.order i e) e

    -- ---- from the test

    to-join : Irreducible P o e → JoinIrreducible (ops_of P) e
    to-join r = record { is_element = lt-ltb _ _ k; not_bottom = bottom; no_join = λ a b x y u v z. joins a b (ltb-true _ _ x) (ltb-true _ _ y) u v (z ∙ join_is a b (ltb-true _ _ x) (ltb-true _ _ y)) }
      where
        bottom : e ≡ bot_of P → ⊥
        bottom z =
            let s : under r.lower ≡ true = sym (r.others r.lower r.inside) ∙ o.rfl r.lower r.inside in
            let x = without_l (λ i. P.order i e) e r.lower s in
            let y = without_r (λ i. P.order i e) e r.lower s in
            x (o.anti.same r.lower e r.inside k y (rw z (bot_at.above r.lower r.inside)))

        joins : (a b : ℕ) → a < P.size → b < P.size → (a ≡ e → ⊥) → (b ≡ e → ⊥) → e ≡ join_of P a b → ⊥
        joins a b l m u v z =
            let j = join_at P w a b l m in
            let x : P.order a r.lower ≡ true = r.others a l ∙ without_in (λ i. P.order i e) e a u (rw z j.left) in
            let y : P.order b r.lower ≡ true = r.others b m ∙ without_in (λ i. P.order i e) e b v (rw z j.right) in
            let t : P.order e r.lower ≡ true = rw z (j.greatest r.lower r.inside x y) in
            without_l (λ i. P.order i e) e e (sym (r.others e k) ∙ t) refl

    -- ---- to the test

    -- x is below e, and at or above the first i elements that are
    record Below (i x : ℕ) : Type 0 where
      inside : x < P.size
      lower : P.order x e ≡ true
      unlike : x ≡ e → ⊥
      over : (c : ℕ) → c < i → under c ≡ true → P.order c x ≡ true

    module _ (J : JoinIrreducible (ops_of P) e) where
      below : (i : ℕ) → i ≤ P.size → (x : ℕ) × Below i x
      below zero h = (bot_of P, record { inside = bot_at.inside; lower = bot_at.above e k; unlike = λ z. J.not_bottom (sym z); over = λ c l. absurd (not-suc-le-zero l) })
      below (suc i) h = go (below i (omega arith)) (under i) refl
        where
          go : (x : ℕ) × Below i x → (b : Bool) → under i ≡ b → (x : ℕ) × Below (suc i) x
          go (x, v) false z = (
            x,
            record {
              inside = v.inside;
              lower = v.lower;
              unlike = v.unlike;
              over = below_suc {P = λ c. under c ≡ true → P.order c x ≡ true} v.over (λ t. absurd (false_true z t));
            },
          )
          go (x, v) true z =
              let j = join_at P w x i v.inside h in
              let l = w.join_lt x i v.inside h in (
                join_of P x i,
                record {
                  inside = l;
                  lower = j.greatest e k v.lower (without_r (λ i. P.order i e) e i z);
                  unlike = λ y. J.no_join x i (lt-ltb _ _ v.inside) (lt-ltb _ _ h) v.unlike (without_l (λ i. P.order i e) e i z) (sym y ∙ sym (join_is x i v.inside h));
                  over = below_suc {P = λ c. under c ≡ true → P.order c (join_of P x i) ≡ true} (λ c q t. o.trans c x _ (omega arith) v.inside l (v.over c q t) j.left) (λ t. j.right);
                },
              )

      from-join : Irreducible P o e
      from-join =
          let v = below P.size (le_refl _) in
          let x = v.0 in
          record {
            lower = x;
            inside = v.1.inside;
            others = λ i l. bool_same _ _
                (λ t. without_in (λ j. P.order j e) e i (λ z. v.1.unlike (o.anti.same x e v.1.inside k v.1.lower (rw z at t))) (o.trans i x e l v.1.inside k t v.1.lower))
                (v.1.over i l);
          }

    -- In an order with all meets and joins, the test on the words is passed by exactly the join-irreducible elements.
    pub irreducible-exactly : (irreducible P.size (down_of P) e ≡ true) ↔ JoinIrreducible (ops_of P) e
    irreducible-exactly = (λ t. to-join (irreducible_out P o e k t), λ J. irreducible_in P o e k (from-join J))
