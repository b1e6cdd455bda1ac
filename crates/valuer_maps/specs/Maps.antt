-- What a list of words is as a map from states to elements, and that the words of Code are the maps of nodes. Rests on Code, theory's
-- Lattice, Lists, Part and Value, elements' Words, Coded and Folds.
--   MapOf: the first words of a list are the codes of the elements that a map gives; map_as: by a map that gives the same
--   start_of, map_start, map_literals, map_join_or_meet, map_next: the maps of nodes
--   implied: the meet over the values v of v → f, which AX and the value on a whole model are
--   map_decoded: a word is turned back into the value; map_same: equal words, equal values
use Rattle.std.specs.Prelude.{ℕ, ◌≤◌, ◌<◌, ◌≡◌, Bool, cond, List, get_or, replicate}
use Rattle.std.proofs.Common.{sym, ap, ◌∙◌, arith, ltb-true}
use Rattle.std.proofs.Math.Bool.{true, false}
use Rattle.std.specs.Int.Bits.{bit_and, bit_or}
use Rattle.std.proofs.lemmas.List.{get_or-replicate}
use Rattle.theory.specs.Lattice.{imp, big_meet}
use Rattle.theory.specs.Loop.{fold}
use Rattle.theory.specs.Model.{Valued}
use Rattle.theory.specs.Part.{model_of}
use Rattle.theory.specs.Value.{all_next, some_next}
use Rattle.elements.specs.declared.Lattice.{Lattice}
use Rattle.elements.specs.Words.{code_in, negated_code_in, decode_in, ops_in, Coded}
use Rattle.elements.proofs.Coded.{meet_lt, join_lt, complement_lt}
use Rattle.elements.specs.Folds.{CodeOf}
use Rattle.elements.proofs.Folds.{decode_in_lem, code_of, negated_of, bottom_of, meet_of_lem, join_of_lem, big_meet_lt, big_join_lt, fold_meets, fold_joins}
use Rattle.valuer_maps.specs.Code.{join_or_meet_code, start_code, next_code, Literals, Combined, NextMap}

-- the first n words of x are the codes of the elements that f gives
pub record MapOf (w : List ℕ) (l : Lattice) (f : ℕ → ℕ) (n : ℕ) (x : List ℕ) : Type 0 where
  pub code : (q : ℕ) → q < n → CodeOf w (get_or x q 0) (f q)
  pub element : (q : ℕ) → q < n → f q < l.size

pub map_as : {w : List ℕ} {l : Lattice} {f g : ℕ → ℕ} {n : ℕ} {x : List ℕ}
    → MapOf w l f n x → ((q : ℕ) → q < n → f q ≡ g q) → MapOf w l g n x
map_as {w} h e = record {
  code = λ q k. record { eq = (h.code q k).eq ∙ ap (code_in w) (e q k) };
  element = λ q k. rw (← e q k) (h.element q k);
}

-- the element at which a least fixpoint or a greatest one starts
unfoldable pub start_of : Lattice → Bool → ℕ
start_of l least = cond least l.bottom.0 l.top.0

module _ {w : List ℕ} {l : Lattice} (c : Coded w l) where
  -- the code of one element, everywhere
  map_everywhere : (x e n : ℕ) → CodeOf w x e → e < l.size → n ≤ 64 → MapOf w l (λ q. e) n (replicate 64 x)
  map_everywhere x e n h k b = record {
    code = λ q m. record { eq = get_or-replicate 64 q x 0 (omega arith) ∙ h.eq };
    element = λ q m. k;
  }

  pub map_start : (least : Bool) (n : ℕ) → n ≤ 64 → MapOf w l (λ q. start_of l least) n (replicate 64 (start_code w l least))
  unfolding start_of start_code
  map_start true n = map_everywhere 0 l.bottom.0 n (bottom_of c) c.bottom_lt
  map_start false n = map_everywhere (code_in w l.top.0) l.top.0 n (code_of c l.top.0) c.top_lt

  pub map_literals : (m : List ℕ) {x : List ℕ} (negated : Bool) (p : ℕ) → p < get_or m 1 0 → Valued (ops_in w l) (model_of m) → Literals w m negated p x
      → MapOf w l (λ q. cond negated ((ops_in w l).neg ((model_of m).label q p)) ((model_of m).label q p)) (get_or m 0 0) x
  map_literals m true p b v h = record {
    code = λ q k. record { eq = h.at q k ∙ (negated_of c ((model_of m).label q p)).eq };
    element = λ q k. complement_lt c ((model_of m).label q p);
  }
  map_literals m false p b v h = record {
    code = λ q k. record { eq = h.at q k };
    element = λ q k. ltb-true _ _ (v.label_element q k p b);
  }

  pub map_join_or_meet : {f g : ℕ → ℕ} {n : ℕ} {x y z : List ℕ} (up : Bool) → MapOf w l f n x → MapOf w l g n y → Combined up x y n z
      → MapOf w l (λ q. cond up ((ops_in w l).join (f q) (g q)) ((ops_in w l).meet (f q) (g q))) n z
  unfolding join_or_meet_code
  map_join_or_meet {f} {g} true u v h = record {
    code = λ q k. record { eq = h.at q k ∙ (join_of_lem c {a = f q} {b = g q} (u.code q k) (v.code q k)).eq };
    element = λ q k. join_lt c (f q) (g q);
  }
  map_join_or_meet {f} {g} false u v h = record {
    code = λ q k. record { eq = h.at q k ∙ (meet_of_lem c {a = f q} {b = g q} (u.code q k) (v.code q k)).eq };
    element = λ q k. meet_lt c (f q) (g q);
  }

  -- the & over the values v of the code of not-v | f is the code of the meet of v → f
  pub implied : (v : ℕ → ℕ) {f : ℕ → ℕ} {n : ℕ} {x : List ℕ} → MapOf w l f n x
      → CodeOf w (fold bit_and (code_in w l.top.0) (λ r. bit_or (negated_code_in w (v r)) (get_or x r 0)) n)
      (big_meet (ops_in w l) n (λ r. imp (ops_in w l) (v r) (f r)))
  unfolding imp
  implied v {f} {n} u = fold_meets c n _ _ (code_of c l.top.0) (λ r j. join_of_lem c {a = (ops_in w l).neg (v r)} {b = f r} (negated_of c (v r)) (u.code r j))

  pub map_next : (m : List ℕ) {f : ℕ → ℕ} {x z : List ℕ} (all : Bool) → MapOf w l f (get_or m 0 0) x → NextMap w l m all x z
      → MapOf w l (λ q. cond all (all_next (ops_in w l) (model_of m) f q) (some_next (ops_in w l) (model_of m) f q)) (get_or m 0 0) z
  unfolding next_code all_next some_next
  map_next m true u h = record {
    code = λ q k. record { eq = h.at q k ∙ (implied ((model_of m).transition q) u).eq };
    element = λ q k. big_meet_lt c (get_or m 0 0) _;
  }
  map_next m {f} false u h = record {
    code = λ q k.
        record { eq = h.at q k ∙ (fold_joins c (get_or m 0 0) _ _ (λ r j. meet_of_lem c {a = (model_of m).transition q r} {b = f r} (code_of c ((model_of m).transition q r)) (u.code r j))).eq };
    element = λ q k. big_join_lt c (get_or m 0 0) _;
  }

  -- a word is turned back into the value
  pub map_decoded : {f : ℕ → ℕ} {n : ℕ} {x : List ℕ} → MapOf w l f n x → (q : ℕ) → q < n → decode_in w (get_or x q 0) ≡ f q
  map_decoded u q k = decode_in_lem c (u.code q k) (u.element q k)

  -- equal words, equal values
  pub map_same : {f g : ℕ → ℕ} {n : ℕ} {x y : List ℕ} → MapOf w l f n x → MapOf w l g n y → (q : ℕ) → q < n
      → get_or x q 0 ≡ get_or y q 0 → f q ≡ g q
  map_same u v q k e = sym (map_decoded u q k) ∙ ap (decode_in w) e ∙ map_decoded v q k
