-- Codes of the elements of a lattice, by its irreducible elements: a lattice is distributive exactly when the code of a join is the | of the
-- codes. Rests on lattice_order's Ordered, Bounds and Tests, elements' Bits and Laws, Tests, Order, Lattice.
-- The definitions are in specs/Birkhoff.
--   code_bits: the bits of a code; code-order: the order is that of the codes; code-distinct; code_meet: the code of a meet
--   distributive-sound: where the | of every two codes is a code, the lattice is distributive; code-join: where it is, that of the join
use Rattle.std.specs.Prelude.{ℕ, zero, suc, ◌-◌, ◌^◌, ◌<◌, ◌≡◌, refl, Bool, true, false, ◌&&◌, ◌||◌}
use Rattle.std.proofs.Math.Path.{sym, ap}
use Rattle.std.proofs.Common.{ap₂, ◌∙◌, ⊎_elim, le_refl, not-suc-le-zero, arith}
use borrow.Author.Tests.{eqb-true, eq-eqb}
use Rattle.std.specs.Int.Bits.{bit_and, bit_or}
use Rattle.std.proofs.Math.Dec.{eqb}
use Rattle.theory.specs.Part.{LatticePart, meet_of, join_of}
use Rattle.theory.specs.TestLaws.{decide, bool_same, and_l, and_r, and_in, false_true}
use Rattle.lattice_order.specs.Tests.{distributive}
use Rattle.lattice_order.specs.Searched.{all3_at, all3_in}
use Rattle.lattice_order.specs.DeMorgan.{reversed, MeetAt}
use Rattle.lattice_order.specs.Ordered.{Ordered, MeetsJoinsFound, meet_at, join_at}
use Rattle.elements.specs.Bits.{bits, bits_cong, bits_same, bits_and, bits_or, bits_less, bits_within_in, bits_within_out, without, without_in, without_l, without_r}
use Rattle.elements.specs.Laws.{and_or, Within, within-refl, or_left, or_right, or_lub}
use Rattle.elements.specs.Words.{within}
use Rattle.lattice_codes.specs.Tests.{any_in, any_out, down_of, is_word, irreducible, code_of}
use Rattle.lattice_codes.specs.Order.{down_lt}
use Rattle.lattice_codes.specs.MeetsJoinsFound.{Meets, meets_and_joins-meets}
use Rattle.lattice_codes.specs.Birkhoff.{below, Irreducible}

pub code_bits : (P : LatticePart) (a : ℕ) → code_of P a ≡ bits P.size (below P a)
code_bits P a = sym (bits_and P.size (λ e. P.order e a) (irreducible P.size (down_of P)))

module _ (P : LatticePart) (o : Ordered P) where
  -- ---- what it is to be irreducible: the others at or below a are those at or below one element

  -- the word without a's own bit
  rest : (a : ℕ) → a < P.size → down_of P a - 2 ^ a ≡ bits P.size (without (λ j. P.order j a) a)
  rest a l = let e = bits_less P.size (λ j. P.order j a) a l (o.rfl a l) in omega arith

  pub irreducible_in : (a : ℕ) → a < P.size → (Irreducible P o) a → irreducible P.size (down_of P) a ≡ true
  unfolding is_word
  irreducible_in a l w =
      any_in P.size (λ c. eqb (down_of P c) (down_of P a - 2 ^ a)) w.lower w.inside
      (eq-eqb _ _ (bits_cong P.size _ _ w.others ∙ sym (rest a l)))

  pub irreducible_out : (a : ℕ) → a < P.size → irreducible P.size (down_of P) a ≡ true → (Irreducible P o) a
  unfolding is_word
  irreducible_out a l t =
      let w = any_out P.size (λ c. eqb (down_of P c) (down_of P a - 2 ^ a)) t in
      record {
        lower = w.number;
        inside = w.below;
        others = bits_same P.size (λ i. P.order i w.number) (without (λ j. P.order j a) a) (eqb-true _ _ w.passed ∙ rest a l);
      }

  -- ---- an element is at or below another where its irreducible elements are

  module _ (m : Meets P) where
    dense_from : (k a b : ℕ) → a < P.size → b < P.size → down_of P a < k → ((e : ℕ) → e < P.size → below P a e ≡ true → below P b e ≡ true) → P.order a b ≡ true
    dense_from zero a b l j z h = absurd (not-suc-le-zero z)
    dense_from (suc k) a b l j z h = ⊎_elim (λ t. t) (λ u. go u (dense_from k)) (decide (P.order a b))
      where
        Before : Type 0
        Before = (a b : ℕ) → a < P.size → b < P.size → down_of P a < k → ((e : ℕ) → e < P.size → below P a e ≡ true → below P b e ≡ true) → P.order a b ≡ true

        go : ¬ (P.order a b ≡ true) → Before → P.order a b ≡ true
        go u ih =
            let c = m.meet a b in
            let s = m.lt a b l j in
            let v = m.at a b l j in
            let lower : (i : ℕ) → i < P.size → P.order i c ≡ true → without (λ j. P.order j a) a i ≡ true =
            λ i q t. without_in (λ j. P.order j a) a i (λ e. u (o.trans a c b l s j (rw e at t) v.right)) (o.trans i c a q s l t v.left) in
            let upper : (i : ℕ) → i < P.size → without (λ j. P.order j a) a i ≡ true → P.order i c ≡ true =
            λ i q t.
            let x = without_r (λ j. P.order j a) a i t in
            let y = without_l (λ j. P.order j a) a i t in
            let d = down_lt P o i a q l x y in
            v.greatest i q x (ih i b q j (omega arith) (λ e p r. h e p (and_in _ _ (o.trans e i a p q l (and_l (P.order e i) _ r) x) (and_r (P.order e i) _ r)))) in
            let w : (Irreducible P o) a = record { lower = c; inside = s; others = λ i q. bool_same _ _ (lower i q) (upper i q) } in
            and_l (P.order a b) _ (h a l (and_in _ _ (o.rfl a l) (irreducible_in a l w)))

    pub code-order : (a b : ℕ) → a < P.size → b < P.size → P.order a b ≡ within (code_of P a) (code_of P b)
    code-order a b l j =
        bool_same _ _
        (λ t. eq-eqb _ _ (ap₂ bit_and (code_bits P a) (code_bits P b) ∙ bits_within_in P.size (below P a) (below P b) (λ e k s. and_in _ _ (o.trans e a b k l j (and_l (P.order e a) _ s) t) (and_r (P.order e a) _ s)) ∙ sym (code_bits P a)))
        (λ t. dense_from (suc (down_of P a)) a b l j (le_refl _) (bits_within_out P.size (below P a) (below P b) (ap₂ bit_and (sym (code_bits P a)) (sym (code_bits P b)) ∙ eqb-true _ _ t ∙ code_bits P a)))

    -- the same, as words in order
    pub code_within : {a b : ℕ} → a < P.size → b < P.size → P.order a b ≡ true → Within (code_of P a) (code_of P b)
    code_within {a} {b} l j t = record { eq = eqb-true _ _ (sym (code-order a b l j) ∙ t) }

    pub within-code : {a b : ℕ} → a < P.size → b < P.size → Within (code_of P a) (code_of P b) → P.order a b ≡ true
    within-code {a} {b} l j w = code-order a b l j ∙ eq-eqb _ _ w.eq

    pub code-distinct : (a b : ℕ) → a < P.size → b < P.size → code_of P a ≡ code_of P b → a ≡ b
    code-distinct a b l j e =
        o.anti.same a b l j
        (within-code l j (record { eq = ap (bit_and (code_of P a)) (sym e) ∙ (within-refl (code_of P a)).eq }))
        (within-code j l (record { eq = ap (bit_and (code_of P b)) e ∙ (within-refl (code_of P b)).eq }))

  -- the code of a meet
  pub code_meet : (a b c : ℕ) → a < P.size → b < P.size → c < P.size → MeetAt P a b c → code_of P c ≡ bit_and (code_of P a) (code_of P b)
  code_meet a b c l j k w =
      code_bits P c
      ∙ bits_cong P.size _ _ (λ e h. bool_same _ _
      (λ t. and_in _ _ (and_in _ _ (o.trans e c a h k l (and_l (P.order e c) _ t) w.left) (and_r (P.order e c) _ t)) (and_in _ _ (o.trans e c b h k j (and_l (P.order e c) _ t) w.right) (and_r (P.order e c) _ t)))
      (λ t. let x = and_l (below P a e) _ t in let y = and_r (below P a e) _ t in and_in _ _ (w.greatest e h (and_l (P.order e a) _ x) (and_l (P.order e b) _ y)) (and_r (P.order e a) _ x)))
      ∙ bits_and P.size (below P a) (below P b)
      ∙ ap₂ bit_and (sym (code_bits P a)) (sym (code_bits P b))

  -- ---- distributive, and every | of two codes is a code

  module _ (w : MeetsJoinsFound P) where
    abbrev M : Meets P
    M = meets_and_joins-meets P w

    abbrev met : ℕ → ℕ → ℕ
    met = meet_of P

    abbrev joined : ℕ → ℕ → ℕ
    joined = join_of P

    meet_code_lem : (a b : ℕ) → a < P.size → b < P.size → code_of P (met a b) ≡ bit_and (code_of P a) (code_of P b)
    meet_code_lem a b l j = code_meet a b (met a b) l j (w.meet_lt a b l j) (meet_at P w a b l j)

    -- an element whose code is the | of two codes is their join
    join_code_lem : (a b c : ℕ) → a < P.size → b < P.size → c < P.size → code_of P c ≡ bit_or (code_of P a) (code_of P b) → c ≡ joined a b
    join_code_lem a b c l j k e =
        let v = join_at P w a b l j in
        let q = w.join_lt a b l j in
        o.anti.same c (joined a b) k q
        (within-code M k q (rw e (or_lub (code_within M l q v.left) (code_within M j q v.right))))
        (v.greatest c k (within-code M l k (rw e (or_left (code_of P a) (code_of P b)))) (within-code M j k (rw e (or_right (code_of P a) (code_of P b)))))

    module _ (joins : (a b : ℕ) → a < P.size → b < P.size → code_of P (joined a b) ≡ bit_or (code_of P a) (code_of P b)) where
      distributes-at : (a b c : ℕ) → a < P.size → b < P.size → c < P.size → met a (joined b c) ≡ joined (met a b) (met a c)
      distributes-at a b c l j k =
          let x = w.join_lt b c j k in
          let y = w.meet_lt a b l j in
          let z = w.meet_lt a c l k in
          code-distinct M _ _ (w.meet_lt a _ l x) (w.join_lt _ _ y z)
          (meet_code_lem a (joined b c) l x ∙ ap (bit_and (code_of P a)) (joins b c j k) ∙ and_or (code_of P a) (code_of P b) (code_of P c)
          ∙ sym (joins (met a b) (met a c) y z ∙ ap₂ bit_or (meet_code_lem a b l j) (meet_code_lem a c l k)))

    pub distributive-sound : ((a b : ℕ) → a < P.size → b < P.size → (c : ℕ) × (c < P.size) × (code_of P c ≡ bit_or (code_of P a) (code_of P b))) → distributive P.size (meet_of P) (join_of P) ≡ true
    unfolding distributive
    distributive-sound j = all3_in P.size _ (λ a b c l m k. eq-eqb _ _ (distributes-at joins a b c l m k))
      where
        joins : (a b : ℕ) → a < P.size → b < P.size → code_of P (joined a b) ≡ bit_or (code_of P a) (code_of P b)
        joins a b l m = let v = j a b l m in ap (code_of P) (sym (join_code_lem a b v.0 l m v.1 v.2)) ∙ v.2

    module _ (d : distributive P.size (meet_of P) (join_of P) ≡ true) where
      dist-at : (a b c : ℕ) → a < P.size → b < P.size → c < P.size → met a (joined b c) ≡ joined (met a b) (met a c)
      unfolding distributive
      dist-at a b c l j k = eqb-true _ _ (all3_at P.size _ d a b c l j k)

      -- an irreducible element at or below a join is at or below one of the two
      one_side : (e a b : ℕ) → e < P.size → a < P.size → b < P.size → (Irreducible P o) e → P.order e (joined a b) ≡ true → (P.order e a || P.order e b) ≡ true
      one_side e a b k l j r t = go (P.order e a) refl (P.order e b) refl
        where
          -- a meet with e that is not e is below e's lower element
          under : (c : ℕ) → c < P.size → P.order e c ≡ false → P.order (met e c) r.lower ≡ true
          under c h f =
              let v = meet_at P w e c k h in
              r.others (met e c) (w.meet_lt e c k h)
              ∙ without_in (λ i. P.order i e) e (met e c) (λ z. false_true f (rw z at v.right)) v.left

          go : (x : Bool) → P.order e a ≡ x → (y : Bool) → P.order e b ≡ y → (x || y) ≡ true
          go true p y q = refl
          go false p true q = refl
          go false p false q = absurd (without_l (λ i. P.order i e) e e (sym (r.others e k) ∙ at) refl)
            where
              x : joined a b < P.size
              x = w.join_lt a b l j

              whole : met e (joined a b) ≡ e
              whole =
                  let v = meet_at P w e (joined a b) k x in
                  let h = w.meet_lt e (joined a b) k x in
                  o.anti.same (met e (joined a b)) e h k v.left (v.greatest e k (o.rfl e k) t)

              at : P.order e r.lower ≡ true
              at =
                  let y = w.meet_lt e a k l in
                  let z = w.meet_lt e b k j in
                  rw (sym (dist-at e a b k l j) ∙ whole) at ((join_at P w (met e a) (met e b) y z).greatest r.lower r.inside (under a l p) (under b j q))

      pub code-join : (a b : ℕ) → a < P.size → b < P.size → code_of P (joined a b) ≡ bit_or (code_of P a) (code_of P b)
      code-join a b l j =
          code_bits P (joined a b)
          ∙ bits_cong P.size _ _ (λ e k. bool_same _ _
          (λ t. split (P.order e a) (P.order e b) (irreducible P.size (down_of P) e) (and_r (P.order e (joined a b)) _ t) (one_side e a b k l j (irreducible_out e k (and_r (P.order e (joined a b)) _ t)) (and_l (P.order e (joined a b)) _ t)))
          (λ t. unite e k (P.order e a) refl (P.order e b) refl (irreducible P.size (down_of P) e) t))
          ∙ bits_or P.size (below P a) (below P b)
          ∙ ap₂ bit_or (sym (code_bits P a)) (sym (code_bits P b))
        where
          v : MeetAt (reversed P) a b (joined a b)
          v = join_at P w a b l j

          q : joined a b < P.size
          q = w.join_lt a b l j

          split : (x y z : Bool) → z ≡ true → (x || y) ≡ true → ((x && z) || (y && z)) ≡ true
          split true y true e t = refl
          split false y true e t = and_in y true t refl
          split true y false e t = absurd (false_true refl e)
          split false y false e t = absurd (false_true refl e)

          unite : (e : ℕ) → e < P.size → (x : Bool) → P.order e a ≡ x → (y : Bool) → P.order e b ≡ y → (z : Bool) → ((x && z) || (y && z)) ≡ true → (P.order e (joined a b) && z) ≡ true
          unite e k true p y s true t = and_in _ _ (o.trans e a _ k l q p v.left) refl
          unite e k false p true s true t = and_in _ _ (o.trans e b _ k j q s v.right) refl
          unite e k false p false s z t = absurd (false_true refl t)
          unite e k true p true s false t = absurd (false_true refl t)
          unite e k true p false s false t = absurd (false_true refl t)
          unite e k false p true s false t = absurd (false_true refl t)
