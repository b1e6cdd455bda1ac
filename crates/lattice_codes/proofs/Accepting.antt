-- The test that an accepted part passes: its order is that of the codes, the | of a code and an irreducible element's code is a code, and so is 0.
-- Exactly the distributive lattices pass it. Rests on lattice_order's Ordered, Bounds and Tests, elements' Bits and Laws, Tests, Order, Bounded, Birkhoff.
-- The definitions are in specs/Accepting.
--   lattice_sound: what passes is one; test_complete: each one passes; lattice_exactly: both; bottom_code: the code of the bottom is 0
use Rattle.std.specs.Prelude.{ℕ, zero, suc, ◌^◌, ◌≤◌, ◌<◌, ◌≡◌, refl, Bool, true, false, ◌&&◌, ◌||◌}
use Rattle.std.proofs.Common.{sym, ap₂, ◌∙◌, le_refl, not-suc-le-zero, arith, eqb-true, eq-eqb}
use Rattle.std.specs.Int.Bits.{bit_and, bit_or}
use Rattle.std.proofs.lemmas.Nat.{or_comm}
use Rattle.std.proofs.Math.Dec.{eqb}
use Rattle.theory.specs.Part.{LatticePart, meet_of, join_of}
use Rattle.theory.specs.TestLaws.{below_suc, bool_same, and_l, and_r, and_in, ⇒-elim, ⇒-in, not_passed, false_true}
use Rattle.lattice_order.specs.Tests.{partial_order, meets_and_joins, distributive}
use Rattle.lattice_order.specs.Searched.{all2_at, all2_in, join-reversed, meet_some, TopAt, fold_up_to}
use Rattle.lattice_order.specs.DeMorgan.{reversed}
use Rattle.lattice_order.specs.Ordered.{Ordered, MeetsJoinsFound, ordered_in, ordered_out, ordered-reversed, meets_and_joins_in, meets_and_joins_out, meets_and_joins-reversed, top_is}
use Rattle.elements.specs.Bits.{bits, bits_cong, bits_same, bits_and, bits_or, bits_none, bits_at, without, without_l, without_r}
use Rattle.elements.specs.Laws.{Within, and_left, and_right, and_glb, or_left, or_right, or_lub}
use Rattle.elements.specs.Words.{within}
use Rattle.lattice_codes.specs.Tests.{any_in, any_out, down_of, is_word, pair_closed, closed, ordered, irreducible, irreducibles, code_of, lattice_test}
use Rattle.lattice_codes.specs.Order.{word_in, word_out, ordered-sound, ordered_complete}
use Rattle.lattice_codes.specs.MeetsJoinsFound.{meets_and_joins-meets}
use Rattle.lattice_codes.specs.Birkhoff.{below}
use Rattle.lattice_codes.proofs.Birkhoff.{code_bits, irreducible_out, code-order, code-distinct, distributive-sound, code-join}
use Rattle.lattice_codes.specs.Accepting.{DistributiveLattice, CodeAt, DownSet}

code_at : (P : LatticePart) (x : ℕ) → is_word P.size (code_of P) x ≡ true → CodeAt P x
unfolding is_word
code_at P x t = let v = any_out P.size (λ c. eqb (code_of P c) x) t in record { element = v.number; inside = v.below; code = eqb-true _ _ v.passed }

or_out : (a b : Bool) {A : Type 0} → (a || b) ≡ true → (a ≡ true → A) → (b ≡ true → A) → A
or_out true b t f g = f refl
or_out false b t f g = g t

or_in_l : (a b : Bool) → a ≡ true → (a || b) ≡ true
or_in_l a b e = rw e

or_in_r : (a b : Bool) → b ≡ true → (a || b) ≡ true
or_in_r true b e = refl
or_in_r false b e = e

-- ---- what passes is a distributive lattice

module _ (P : LatticePart) (t : ordered P.size (down_of P) (code_of P) ≡ true) (g : closed P.size (code_of P) (irreducibles P.size (down_of P)) true ≡ true) (z : is_word P.size (code_of P) 0 ≡ true) where
  o : Ordered P
  o = ordered-sound P (code_of P) t

  abbrev simple : ℕ → Bool
  simple = irreducible P.size (down_of P)

  -- one irreducible element more
  more : (a e : ℕ) → a < P.size → e < P.size → simple e ≡ true → CodeAt P (bit_or (code_of P a) (code_of P e))
  unfolding closed pair_closed
  more a e l k s =
      rw (or_comm (code_of P e) (code_of P a)) at
      (code_at P _ (⇒-elim (within (2 ^ e) (irreducibles P.size (down_of P))) _ (all2_at P.size (pair_closed P.size (code_of P) (irreducibles P.size (down_of P)) true) g e a k l) (bits_at P.size simple e k ∙ s)))

  -- x has no bits but those of p, and has those of the first k elements
  record Part (p : ℕ → Bool) (k x : ℕ) : Type 0 where
    inside : x < P.size
    under : (i : ℕ) → i < P.size → below P x i ≡ true → p i ≡ true
    over : (e : ℕ) → e < k → p e ≡ true → below P x e ≡ true

  module _ (p : ℕ → Bool) (d : DownSet P p) where
    part : (k : ℕ) → k ≤ P.size → (x : ℕ) × Part p k x
    part zero h =
        let w = code_at P 0 z in
        let f : (i : ℕ) → i < P.size → below P w.element i ≡ false =
        bits_same P.size (below P w.element) (λ i. false) (sym (code_bits P w.element) ∙ w.code ∙ sym (bits_none P.size (λ i. false) (λ i l. refl))) in
        (w.element, record { inside = w.inside; under = λ i l s. absurd (false_true (f i l) s); over = λ e l. absurd (not-suc-le-zero l) })
    part (suc k) h = go (part k (omega arith)) (p k) refl
      where
        go : (x : ℕ) × Part p k x → (b : Bool) → p k ≡ b → (x : ℕ) × Part p (suc k) x
        go (x, w) false e = (
          x,
          record {
            inside = w.inside;
            under = w.under;
            over = below_suc {P = λ e. p e ≡ true → below P x e ≡ true} w.over (λ s. absurd (false_true e s));
          },
        )
        go (x, w) true e =
            let s = d.simples k h e in
            let v = more x k w.inside h s in
            let f : (i : ℕ) → i < P.size → below P v.element i ≡ (below P x i || below P k i) =
            bits_same P.size (below P v.element) (λ i. below P x i || below P k i) (sym (code_bits P v.element) ∙ v.code ∙ ap₂ bit_or (code_bits P x) (code_bits P k) ∙ sym (bits_or P.size (below P x) (below P k))) in (
              v.element,
              record {
                inside = v.inside;
                under = λ i l u. or_out (below P x i) (below P k i) (sym (f i l) ∙ u) (w.under i l) (d.lower k i h l e);
                over = below_suc {P = λ e. p e ≡ true → below P v.element e ≡ true}
                    (λ i l u. f i (omega arith) ∙ or_in_l (below P x i) (below P k i) (w.over i l u))
                    (λ u. f k h ∙ or_in_r (below P x k) (below P k k) (and_in _ _ (o.rfl k h) s));
              },
            )

    pub set_code : CodeAt P (bits P.size p)
    set_code =
        let w = part P.size (le_refl _) in
        record {
          element = w.0;
          inside = w.1.inside;
          code = code_bits P w.0 ∙ bits_cong P.size _ _ (λ i l. bool_same _ _ (w.1.under i l) (w.1.over i l));
        }

  below_lower : (a e i : ℕ) → a < P.size → e < P.size → i < P.size → below P a e ≡ true → below P e i ≡ true → below P a i ≡ true
  below_lower a e i l k h s u = and_in _ _ (o.trans i e a h k l (and_l (P.order i e) _ u) (and_l (P.order e a) _ s)) (and_r (P.order i e) _ u)

  meets : (a b : ℕ) → a < P.size → b < P.size → CodeAt P (bit_and (code_of P a) (code_of P b))
  meets a b l m =
      rw (bits_and P.size (below P a) (below P b) ∙ ap₂ bit_and (sym (code_bits P a)) (sym (code_bits P b))) at
      (set_code (λ i. below P a i && below P b i) (record {
        simples = λ e k s. and_r (P.order e a) _ (and_l (below P a e) _ s);
        lower = λ e i k h s u. and_in _ _ (below_lower a e i l k h (and_l (below P a e) _ s) u) (below_lower b e i m k h (and_r (below P a e) _ s) u);
      }))

  joins : (a b : ℕ) → a < P.size → b < P.size → CodeAt P (bit_or (code_of P a) (code_of P b))
  joins a b l m =
      rw (bits_or P.size (below P a) (below P b) ∙ ap₂ bit_or (sym (code_bits P a)) (sym (code_bits P b))) at
      (set_code (λ i. below P a i || below P b i) (record {
        simples = λ e k s. or_out (below P a e) (below P b e) s (and_r (P.order e a) _) (and_r (P.order e b) _);
        lower = λ e i k h s u. or_out (below P a e) (below P b e) s (λ v. or_in_l (below P a i) (below P b i) (below_lower a e i l k h v u)) (λ v. or_in_r (below P a i) (below P b i) (below_lower b e i m k h v u));
      }))

  into : {a b : ℕ} → a < P.size → b < P.size → P.order a b ≡ true → Within (code_of P a) (code_of P b)
  into l m h = word_in P (code_of P) t l m h

  out : {a b : ℕ} → a < P.size → b < P.size → Within (code_of P a) (code_of P b) → P.order a b ≡ true
  out l m h = word_out P (code_of P) t l m h

  meets_and_joins_lem : MeetsJoinsFound P
  meets_and_joins_lem =
      record {
        meet_lt = λ a b l m.
            let w = meets a b l m in
            let k = w.inside in
            meet_some P a b w.element k (record {
              left = out k l (rw w.code (and_left (code_of P a) (code_of P b)));
              right = out k m (rw w.code (and_right (code_of P a) (code_of P b)));
              greatest = λ c h p q. out h k (rw w.code (and_glb (into h l p) (into h m q)));
            });
        join_lt = λ a b l m.
            let w = joins a b l m in
            let k = w.inside in
            rw join-reversed (meet_some (reversed P) a b w.element k (record {
              left = out l k (rw w.code (or_left (code_of P a) (code_of P b)));
              right = out m k (rw w.code (or_right (code_of P a) (code_of P b)));
              greatest = λ c h p q. out k h (rw w.code (or_lub (into l h p) (into m h q)));
            }));
      }

  test-sound : DistributiveLattice P
  test-sound = record { order = o; meets_and_joins_lem = meets_and_joins_lem; distributes = distributive-sound P o meets_and_joins_lem (λ a b l m. let w = joins a b l m in (w.element, w.inside, w.code)) }

-- ---- and every distributive lattice passes

module _ (P : LatticePart) (some : 0 < P.size) (D : DistributiveLattice P) where
  -- the bottom has no irreducible element
  pub bottom_code : (m : ℕ) → TopAt (reversed P) m → code_of P m ≡ 0
  bottom_code m w =
      code_bits P m ∙ bits_none P.size (below P m) (λ e l. not_passed _ (λ t. none e l (and_l (P.order e m) _ t) (and_r (P.order e m) _ t)))
    where
      none : (e : ℕ) → e < P.size → P.order e m ≡ true → irreducible P.size (down_of P) e ≡ true → ⊥
      none e l t u =
          let r = irreducible_out P D.order e l u in
          let s : without (λ i. P.order i e) e r.lower ≡ true = sym (r.others r.lower r.inside) ∙ D.order.rfl r.lower r.inside in
          let x = without_l (λ i. P.order i e) e r.lower s in
          let y = without_r (λ i. P.order i e) e r.lower s in
          x (D.order.anti.same r.lower e r.inside l y (D.order.trans e m r.lower l w.inside r.inside t (w.above r.lower r.inside)))

  pub test_complete : lattice_test P ≡ true
  unfolding closed pair_closed is_word
  test_complete =
      let m = meets_and_joins-meets P D.meets_and_joins_lem in
      let v = top_is (reversed P) some (ordered-reversed P D.order) (meets_and_joins-reversed P D.meets_and_joins_lem) in
      and_in _ _
      (and_in _ _
      (ordered_complete P (code_of P) (code-order P D.order m) (code-distinct P D.order m))
      (all2_in P.size (pair_closed P.size (code_of P) (irreducibles P.size (down_of P)) true) (λ a b l k. ⇒-in (within (2 ^ a) (irreducibles P.size (down_of P))) _ (λ t.
      any_in P.size (λ c. eqb (code_of P c) (bit_or (code_of P a) (code_of P b))) (join_of P a b) (D.meets_and_joins_lem.join_lt a b l k)
      (eq-eqb _ _ (code-join P D.order D.meets_and_joins_lem D.distributes a b l k))))))
      (any_in P.size (λ c. eqb (code_of P c) 0) (fold_up_to (join_of (reversed P)) P.size) v.inside (eq-eqb _ _ (bottom_code _ v)))

pub lattice_sound : (P : LatticePart) → lattice_test P ≡ true → DistributiveLattice P
lattice_sound P t =
    let u = and_l (ordered P.size (down_of P) (code_of P) && closed P.size (code_of P) (irreducibles P.size (down_of P)) true) _ t in
    test-sound P (and_l (ordered P.size (down_of P) (code_of P)) _ u) (and_r (ordered P.size (down_of P) (code_of P)) _ u)
    (and_r (ordered P.size (down_of P) (code_of P) && closed P.size (code_of P) (irreducibles P.size (down_of P)) true) _ t)

-- Exactly the distributive lattices pass.
pub lattice_exactly : (P : LatticePart) → 0 < P.size → lattice_test P ≡ (partial_order P.size P.order && meets_and_joins P && distributive P.size (meet_of P) (join_of P))
lattice_exactly P s =
    bool_same _ _
    (λ t. let D = lattice_sound P t in and_in _ _ (and_in _ _ (ordered_in P D.order) (meets_and_joins_in P D.meets_and_joins_lem)) D.distributes)
    (λ t.
    let u = and_l (partial_order P.size P.order && meets_and_joins P) _ t in
    test_complete P s (record {
      order = ordered_out P (and_l (partial_order P.size P.order) _ u);
      meets_and_joins_lem = meets_and_joins_out P (and_r (partial_order P.size P.order) _ u);
      distributes = and_r (partial_order P.size P.order && meets_and_joins P) _ t;
    }))
