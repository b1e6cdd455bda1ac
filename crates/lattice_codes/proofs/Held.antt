-- The words of a distributive lattice hold its operations. Rests on theory's Part, lattice_order's Ordered and Searched, elements' Words, Tests, Birkhoff,
-- Accepting.
-- The definitions are in specs/Held.
--   held-ops: the operations read from them are the lattice's; held-coded: they are as `words` asks
--   top-is_word, top_found, bottom_is_word, bottom_found: top and bottom by their codes; complement-exactly: the test of refusal 8 by words
use Rattle.std.specs.Prelude.{ℕ, ◌+◌, ◌%◌, ◌<◌, ◌≡◌, Bool, true, ◌&&◌, List, ltb}
use Rattle.std.proofs.Math.Path.{sym, ap, ap₂}
use Rattle.std.proofs.Common.{◌∙◌, arith, eq-eqb, ne_eqb}
use Rattle.std.specs.Int.Bits.{bit_and, bit_or, and_self, and_zero_l}
use Rattle.std.proofs.Math.Dec.{eqb}
use Rattle.std.proofs.Math.ListN.{get_or}
use Rattle.theory.specs.Part.{LatticePart, meet_of, join_of, top_of, bot_of, element, ops_of}
use Rattle.theory.specs.Test.{all_below, ◌⇒◌}
use Rattle.theory.specs.TestLaws.{all_cong, first_unique}
use Rattle.lattice_order.specs.Tests.{all2, complement_rules}
use Rattle.lattice_order.specs.Searched.{element_lt, element_id, element_cong, bot-reversed, TopAt, top-only, fold_up_to}
use Rattle.lattice_order.specs.DeMorgan.{reversed}
use Rattle.lattice_order.specs.Ordered.{Formed, ordered-reversed, meets_and_joins-reversed, meet_at, top_is, top_found as join-of-all}
use Rattle.elements.specs.Bits.{bits_cong}
use Rattle.elements.specs.Laws.{and_assoc}
use Rattle.elements.specs.Words.{code_in, negated_code_in, decode_in, within, at_most_in, meet_in, join_in, complement_in, ops_in, Coded}
use Rattle.lattice_codes.specs.Tests.{any_in, is_word, down_of, irreducible, irreducibles, code_of}
use Rattle.lattice_codes.specs.MeetsJoinsFound.{Meets, meets_and_joins-meets}
use Rattle.lattice_codes.specs.Birkhoff.{below}
use Rattle.lattice_codes.proofs.Birkhoff.{code_bits, code-order, code_within, within-code, code-distinct, code_meet, code-join}
use Rattle.lattice_codes.specs.Accepting.{DistributiveLattice}
use Rattle.lattice_codes.proofs.Accepting.{bottom_code}
use Rattle.lattice_codes.specs.Held.{top_and_bottom, CodesOf}

module _ (P : LatticePart) (f : Formed P) (D : DistributiveLattice P) where
  abbrev M : Meets P
  M = meets_and_joins-meets P D.meets_and_joins_lem

  abbrev n : ℕ
  n = P.size

  lt : (a : ℕ) → element n a < n
  lt a = element_lt n a f.some

  id : (a : ℕ) → a < n → element n a ≡ a
  id a l = element_id n a f.most l

  meet_code_lem : (a b : ℕ) → a < n → b < n → bit_and (code_of P a) (code_of P b) ≡ code_of P (meet_of P a b)
  meet_code_lem a b l m = sym (code_meet P D.order a b (meet_of P a b) l m (D.meets_and_joins_lem.meet_lt a b l m) (meet_at P D.meets_and_joins_lem a b l m))

  join_code_lem : (a b : ℕ) → a < n → b < n → bit_or (code_of P a) (code_of P b) ≡ code_of P (join_of P a b)
  join_code_lem a b l m = sym (code-join P D.order D.meets_and_joins_lem D.distributes a b l m)

  -- ---- top and bottom

  top_at : TopAt P (top_of P)
  top_at = rw (join-of-all P f.some D.order D.meets_and_joins_lem) (top_is P f.some D.order D.meets_and_joins_lem)

  bot_at : TopAt (reversed P) (bot_of P)
  bot_at =
      rw (bot-reversed P, join-of-all (reversed P) f.some (ordered-reversed P D.order) (meets_and_joins-reversed P D.meets_and_joins_lem))
      (top_is (reversed P) f.some (ordered-reversed P D.order) (meets_and_joins-reversed P D.meets_and_joins_lem))

  -- the code of the top has every irreducible element, and that of the bottom none
  top_code_lem : (m : ℕ) → TopAt P m → code_of P m ≡ irreducibles n (down_of P)
  top_code_lem m w = code_bits P m ∙ bits_cong n (below P m) (irreducible n (down_of P)) (λ e l. ap (λ (x : Bool). x && irreducible n (down_of P) e) (w.above e l))

  pub top-is_word : is_word n (code_of P) (irreducibles n (down_of P)) ≡ true
  unfolding is_word
  top-is_word =
      let v = top_is P f.some D.order D.meets_and_joins_lem in
      any_in n (λ c. eqb (code_of P c) (irreducibles n (down_of P))) (fold_up_to (join_of P) n) v.inside (eq-eqb _ _ (top_code_lem _ v))

  pub top_found : (m : ℕ) → m < n → code_of P m ≡ irreducibles n (down_of P) → top_of P ≡ m
  top_found m l e =
      top-only P m D.order.anti (record {
        inside = l;
        above = λ a k. within-code P D.order M k l (record {
          eq = ap (bit_and (code_of P a)) e ∙ and_assoc (down_of P a) (irreducibles n (down_of P)) (irreducibles n (down_of P)) ∙ ap (bit_and (down_of P a)) (and_self (irreducibles n (down_of P)));
        });
      })

  pub bottom_is_word : is_word n (code_of P) 0 ≡ true
  unfolding is_word
  bottom_is_word = any_in n (λ c. eqb (code_of P c) 0) (bot_of P) bot_at.inside (eq-eqb _ _ (bottom_code P f.some D (bot_of P) bot_at))

  pub bottom_found : (m : ℕ) → m < n → code_of P m ≡ 0 → bot_of P ≡ m
  bottom_found m l e =
      bot-reversed P ∙ top-only (reversed P) m (ordered-reversed P D.order).anti (record {
        inside = l;
        above = λ a k. within-code P D.order M l k (record { eq = ap (λ (x : ℕ). bit_and x (code_of P a)) e ∙ and_zero_l (code_of P a) ∙ sym e });
      })

  -- ---- the operations

  module _ (w : List ℕ) (h : CodesOf P w) where
    word_is : (a : ℕ) → code_in w a ≡ code_of P (element n a)
    word_is a = h.codes (a % 64) (omega arith) ∙ ap (code_of P) (element_cong n (a % 64) a (omega arith))

    negated_is : (a : ℕ) → negated_code_in w a ≡ code_of P (P.complement (element n a))
    negated_is a = h.negated (a % 64) (omega arith) ∙ ap (λ (x : ℕ). code_of P (P.complement x)) (element_cong n (a % 64) a (omega arith))

    at_element : (a : ℕ) → a < n → get_or w a 0 ≡ code_of P a
    at_element a l = let m = f.most in h.codes a (omega arith) ∙ ap (code_of P) (id a l)

    -- an element is found by its code
    found : (a x : ℕ) → a < n → x ≡ code_of P a → decode_in w x ≡ a
    found a x l e =
        let m = f.most in
        sym (first_unique 64 (λ b. eqb (get_or w b 0) x) a (record {
          most = omega arith;
          passes = λ k. eq-eqb _ _ (at_element a l ∙ sym e);
          earlier = λ b k. ne_eqb _ _ (λ z. let q : b ≡ a = code-distinct P D.order M b a (omega arith) l (sym (at_element b (omega arith)) ∙ z ∙ e) in omega arith);
        }))

    held-meet : (a b : ℕ) → meet_in w a b ≡ meet_of P (element n a) (element n b)
    held-meet a b = found _ _ (D.meets_and_joins_lem.meet_lt _ _ (lt a) (lt b)) (ap₂ bit_and (word_is a) (word_is b) ∙ meet_code_lem _ _ (lt a) (lt b))

    held-join : (a b : ℕ) → join_in w a b ≡ join_of P (element n a) (element n b)
    held-join a b = found _ _ (D.meets_and_joins_lem.join_lt _ _ (lt a) (lt b)) (ap₂ bit_or (word_is a) (word_is b) ∙ join_code_lem _ _ (lt a) (lt b))

    held-neg : (a : ℕ) → complement_in w a ≡ P.complement (element n a)
    held-neg a = found _ _ (f.inside _ (lt a)) (negated_is a)

    held_order : (a b : ℕ) → at_most_in w a b ≡ P.order (element n a) (element n b)
    held_order a b = ap₂ within (word_is a) (word_is b) ∙ sym (code-order P D.order M _ _ (lt a) (lt b))

    -- The operations read from the words are those of the part.
    pub held-ops : ops_in w (top_and_bottom P) ≡ ops_of P
    held-ops =
        λ i.
        record {
          size = n;
          is_element = λ a. ltb a n;
          at_most = λ a b. held_order a b i;
          meet = λ a b. held-meet a b i;
          join = λ a b. held-join a b i;
          neg = λ a. held-neg a i;
          top = top_of P;
          bot = bot_of P;
        }

    pub held-coded : Coded w (top_and_bottom P)
    held-coded =
        record {
          some = f.some;
          most = f.most;
          distinct = λ a b l m e. code-distinct P D.order M a b l m (sym (at_element a l) ∙ e ∙ at_element b m);
          meets = λ a b l m.
              let k = D.meets_and_joins_lem.meet_lt a b l m in
              record { element = meet_of P a b; below = k; code = ap₂ bit_and (at_element a l) (at_element b m) ∙ meet_code_lem a b l m ∙ sym (at_element _ k) };
          joins = λ a b l m.
              let k = D.meets_and_joins_lem.join_lt a b l m in
              record { element = join_of P a b; below = k; code = ap₂ bit_or (at_element a l) (at_element b m) ∙ join_code_lem a b l m ∙ sym (at_element _ k) };
          padded = λ a l. h.codes a l ∙ sym (at_element _ (lt a));
          negated = λ a l.
              let k = f.inside _ (lt a) in
              record { element = P.complement (element n a); below = k; code = h.negated a l ∙ sym (at_element _ k) };
          negated_padded = λ a l. let m = f.most in let k = lt a in h.negated a l ∙ ap (λ (x : ℕ). code_of P (P.complement x)) (sym (id _ k)) ∙ sym (h.negated (element n a) (omega arith));
          top_lt = top_at.inside;
          top_is = λ a l.
              let e = at_element a l in
              let d = at_element (top_of P) top_at.inside in
              ap₂ bit_and e d ∙ (code_within P D.order M l top_at.inside (top_at.above a l)).eq ∙ sym e;
          bottom_lt = bot_at.inside;
          bottom_is = at_element (bot_of P) bot_at.inside ∙ bottom_code P f.some D (bot_of P) bot_at;
        }

    -- the rules of the complement, on the words
    pub complement-exactly : (all_below n (λ a. eqb (P.complement (P.complement a)) a) && all2 n (λ a b. within (get_or w a 0) (get_or w b 0) ⇒ within (get_or w (64 + b) 0) (get_or w (64 + a) 0))) ≡ complement_rules n P.order P.complement
    unfolding complement_rules
    complement-exactly =
        ap (λ (x : Bool). all_below n (λ a. eqb (P.complement (P.complement a)) a) && x)
        (all_cong n _ _ (λ a l. all_cong n _ _ (λ b m.
        ap₂ ◌⇒◌
        (ap₂ within (at_element a l) (at_element b m) ∙ sym (code-order P D.order M a b l m))
        (ap₂ within (neg-at b m) (neg-at a l) ∙ sym (code-order P D.order M _ _ (f.inside b m) (f.inside a l))))))
      where
        neg-at : (a : ℕ) → a < n → get_or w (64 + a) 0 ≡ code_of P (P.complement a)
        neg-at a l = let m = f.most in h.negated a (omega arith) ∙ ap (λ (x : ℕ). code_of P (P.complement x)) (id a l)
