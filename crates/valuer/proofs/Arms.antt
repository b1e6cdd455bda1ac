-- The answer at a place, by the token there: one law for each arm of the valuer, and that its parts stand where it looks for them.
-- Rests on Node, valuer_maps' Code and Maps, Places.
--   here-literal: a proposition's number is below k
--   here_first, here-inner, here-body: the first part stands at the next place; Second, here_second: the second where the first one's answer says
--   bottom_arm, top-arm, literal-arm, variable_arm, two_arm, next_arm, fixpoint_arm: what each arm answers; no_arm: no formula is without bytes
--   here_read, part_values, part_at_lem, part_whole: a whole part, the codes of its values, a value, and that on the whole model
use Prim.Native.Nat.{ℕ, ◌+◌, ◌≤◌, ◌<◌}
use mathlib.Core.Path.{◌≡◌, sym, ap, ◌∙◌, subst}
use mathlib.Core.Bool.{Bool, true, false}
use mathlib.Core.List.{List}
use native.Mathlib.Omega.{arith}
use borrow.Author.Tests.{ltb-true}
use lib.ListN.{length, get_or, replicate, length-append}
use Rattle.theory.specs.Formula.{Formula, closed_under, over_props}
use Rattle.theory.specs.Part.{model_of}
use Rattle.theory.specs.Value.{eval, value_at, whole_value}
use Rattle.elements.proofs.Folds.{decode_in_lem, big_meet_lt}
use Rattle.elements.specs.Words.{decode_in, ops_in}
use Rattle.elements.specs.declared.Lattice.{Lattice}
use Rattle.model.specs.declared.Proposition.{Proposition}
use Rattle.formula_tokens.specs.declared.Token.{Token}
use Rattle.formula_tokens.specs.declared.Token.TheVariants.{Bottom, Top, Literal, Variable, Two, Next, Fixpoint}
use Rattle.formula_tokens.specs.Tokens.{token_size}
use Rattle.formula_tokens.specs.Sizes.{Stands}
use Rattle.formula.specs.Bytes.{bytes_of}
use Rattle.valuer_maps.specs.Code.{start_code, slot_of, Literals, NextMap}
use Rattle.valuer_maps.specs.Maps.{MapOf, start_of, map_start, map_literals, map_join_or_meet, map_next, implied, map_decoded}
use Rattle.valuer.specs.Values.{ModelOver, Reads, ValueAt, WholeValue}
use Rattle.valuer.specs.Node.{FormulaAt, SomeFormulaAt, SlotsHold, round_limit, Node, Both, Iterated, CodedValues, whole_code}
use Rattle.valuer.proofs.Places.{build, Parts, some_bytes, by_token_lem, of_or, of_and, of_AX, of_EX, of_mu, of_nu, read_formula_at}

-- ---- the parts of what stands at a place stand there too

here : {f : List ℕ} {at d k : ℕ} {φ : Formula} → FormulaAt f at d k φ → SomeFormulaAt f at k
here {d = d} {φ = φ} s = record { depth = d; formula = φ; formula_at = s }

module _ {f : List ℕ} {at i k : ℕ} where
  -- of a formula that begins with a known token
  known : {t : Token} → Stands f at t i → (Q : Type 0) → ((d : ℕ) (g h : Formula) → FormulaAt f at d k (build t g h) → Q) → SomeFormulaAt f at k → Q
  known {t} s Q w x = by_token_lem x.formula_at t s.token (λ φ. FormulaAt f at x.depth k φ → Q) (w x.depth) x.formula_at

  pub here-literal : (p : Proposition) (negated : Bool) → Stands f at (Literal p negated) i → SomeFormulaAt f at k → p.0 < k
  unfolding over_props
  here-literal p true s = known s _ (λ d g h u. ltb-true p.0 k u.over)
  here-literal p false s = known s _ (λ d g h u. ltb-true p.0 k u.over)

  pub here_first : (x : Bool) → Stands f at (Two x) i → SomeFormulaAt f at k → SomeFormulaAt f i k
  unfolding token_size
  here_first true s = known s _ (λ d g h u. here (of_or s.ends g h u).first)
  here_first false s = known s _ (λ d g h u. here (of_and s.ends g h u).first)

  pub here-inner : (x : Bool) → Stands f at (Next x) i → SomeFormulaAt f at k → SomeFormulaAt f i k
  unfolding token_size
  here-inner true s = known s _ (λ d g h u. here (of_AX s.ends g u))
  here-inner false s = known s _ (λ d g h u. here (of_EX s.ends g u))

  pub here-body : (x : Bool) → Stands f at (Fixpoint x) i → SomeFormulaAt f at k → SomeFormulaAt f i k
  unfolding token_size
  here-body true s = known s _ (λ d g h u. here (of_mu s.ends g u))
  here-body false s = known s _ (λ d g h u. here (of_nu s.ends g u))

-- the second part: it begins where the answer of the first, at the place i, says
pub record Second (f : List ℕ) (i k next : ℕ) : Type 0 where
  pub further : i ≤ next
  pub stands : SomeFormulaAt f next k

module _ {w : List ℕ} {l : Lattice} {m f : List ℕ} {i j : ℕ} {near mid far x : List ℕ} (n : Node w l m f i near mid far x j) where
  -- where it stands
  right : {d : ℕ} {g h : Formula} → Parts f i d (get_or m 1 0) g h → FormulaAt f j d (get_or m 1 0) h
  right {d} {g} {h} p = subst (λ (q : ℕ). FormulaAt f q d (get_or m 1 0) h) (sym (n.next d g p.first)) p.second

  second : {d : ℕ} {g h : Formula} → Parts f i d (get_or m 1 0) g h → Second f i (get_or m 1 0) j
  second {d} {g} p = record { further = omega (arith, n.next d g p.first); stands = here (right p) }

  pub here_second : {at : ℕ} (b : Bool) → Stands f at (Two b) i → SomeFormulaAt f at (get_or m 1 0) → Second f i (get_or m 1 0) j
  unfolding token_size
  here_second true s = known s _ (λ d g h u. second (of_or s.ends g h u))
  here_second false s = known s _ (λ d g h u. second (of_and s.ends g h u))

-- ---- the arms

module _ {w : List ℕ} {l : Lattice} {m : List ℕ} (o : ModelOver w l m) {f : List ℕ} {at i : ℕ} {near mid far : List ℕ} where
  -- the answer for each formula that begins with the token that stands here
  by_one : {t : Token} {x : List ℕ} {j : ℕ} → Stands f at t i
      → ((d : ℕ) (g h : Formula) → FormulaAt f at d (get_or m 1 0) (build t g h) → j ≡ at + length (bytes_of (build t g h)))
      → ((d : ℕ) (e : ℕ → ℕ → ℕ) (g h : Formula) → FormulaAt f at d (get_or m 1 0) (build t g h) → SlotsHold w l (get_or m 0 0) near mid far d e
      → MapOf w l (eval (ops_in w l) (model_of m) (round_limit l m) (build t g h) e) (get_or m 0 0) x)
      → Node w l m f at near mid far x j
  by_one {t} {x} {j} s a b = record {
    next = λ d φ v. by_token_lem v t s.token (λ ψ. FormulaAt f at d (get_or m 1 0) ψ → j ≡ at + length (bytes_of ψ)) (a d) v;
    map = λ d φ e v k. by_token_lem v t s.token
        (λ ψ. FormulaAt f at d (get_or m 1 0) ψ → SlotsHold w l (get_or m 0 0) near mid far d e → MapOf w l (eval (ops_in w l) (model_of m) (round_limit l m) ψ e) (get_or m 0 0) x) (b d e) v k;
  }

  pub bottom_arm : {x : ℕ} → Stands f at Bottom i → x ≡ start_code w l true → Node w l m f at near mid far (replicate 64 x) i
  unfolding bytes_of eval start_of token_size
  bottom_arm s z = rw z (by_one s (λ d g h u. s.ends) (λ d e g h u k. map_start o.coded true (get_or m 0 0) o.shape.states_most))

  pub top-arm : {x : ℕ} → Stands f at Top i → x ≡ start_code w l false → Node w l m f at near mid far (replicate 64 x) i
  unfolding bytes_of eval start_of token_size
  top-arm s z = rw z (by_one s (λ d g h u. s.ends) (λ d e g h u k. map_start o.coded false (get_or m 0 0) o.shape.states_most))

  pub literal-arm : {x : List ℕ} (p : Proposition) (b : Bool) → Stands f at (Literal p b) i → p.0 < get_or m 1 0 → Literals w m b p.0 x
      → Node w l m f at near mid far x i
  unfolding bytes_of eval token_size
  literal-arm p true s k a = by_one s (λ d g h u. s.ends) (λ d e g h u j. map_literals o.coded m true p.0 k o.valued a)
  literal-arm p false s k a = by_one s (λ d g h u. s.ends) (λ d e g h u j. map_literals o.coded m false p.0 k o.valued a)

  pub variable_arm : {x : List ℕ} (v : ℕ) → Stands f at (Variable v) i → x ≡ slot_of near mid far v → Node w l m f at near mid far x i
  unfolding bytes_of eval closed_under token_size
  variable_arm v s a = by_one s (λ d g h u. s.ends) (λ d e g h u k. rw a (k.at v (ltb-true v d u.is_closed)))

  pub two_arm : {x v : List ℕ} {j k : ℕ} (b : Bool) → Stands f at (Two b) i → Node w l m f i near mid far x j → Both w l m f j b near mid far x v k
      → Node w l m f at near mid far v k
  unfolding bytes_of eval token_size
  two_arm true s n y =
      by_one s
      (λ d g h u.
      let p = of_or s.ends g h u in
      omega (arith, s.ends, n.next d g p.first, y.node.next d h (right n p), length-append (bytes_of g) (bytes_of h)))
      (λ d e g h u q. let p = of_or s.ends g h u in map_join_or_meet o.coded true (n.map d g e p.first q) (y.node.map d h e (right n p) q) y.combined)
  two_arm false s n y =
      by_one s
      (λ d g h u.
      let p = of_and s.ends g h u in
      omega (arith, s.ends, n.next d g p.first, y.node.next d h (right n p), length-append (bytes_of g) (bytes_of h)))
      (λ d e g h u q. let p = of_and s.ends g h u in map_join_or_meet o.coded false (n.map d g e p.first q) (y.node.map d h e (right n p) q) y.combined)

  pub next_arm : {x v : List ℕ} {j : ℕ} (b : Bool) → Stands f at (Next b) i → Node w l m f i near mid far x j → NextMap w l m b x v
      → Node w l m f at near mid far v j
  unfolding bytes_of eval token_size
  next_arm true s n a =
      by_one s (λ d g h u. omega (arith, s.ends, n.next d g (of_AX s.ends g u)))
      (λ d e g h u k. map_next o.coded m true (n.map d g e (of_AX s.ends g u) k) a)
  next_arm false s n a =
      by_one s (λ d g h u. omega (arith, s.ends, n.next d g (of_EX s.ends g u)))
      (λ d e g h u k. map_next o.coded m false (n.map d g e (of_EX s.ends g u) k) a)

  pub fixpoint_arm : {x : List ℕ} {j start : ℕ} (b : Bool) → Stands f at (Fixpoint b) i → start ≡ start_code w l b → Iterated w l m f i near mid start x j
      → Node w l m f at near mid far x j
  unfolding bytes_of eval start_of token_size
  fixpoint_arm true s z n =
      by_one s (λ d g h u. omega (arith, s.ends, n.next _ g (of_mu s.ends g u)))
      (λ d e g h u k. n.map d g e far (start_of l true) (of_mu s.ends g u) k (rw z (map_start o.coded true (get_or m 0 0) o.shape.states_most)))
  fixpoint_arm false s z n =
      by_one s (λ d g h u. omega (arith, s.ends, n.next _ g (of_nu s.ends g u)))
      (λ d e g h u k. n.map d g e far (start_of l false) (of_nu s.ends g u) k (rw z (map_start o.coded false (get_or m 0 0) o.shape.states_most)))

-- no formula begins with the end or a broken place
pub no_arm : {w : List ℕ} {l : Lattice} {m f : List ℕ} {at i : ℕ} {near mid far x : List ℕ} {j : ℕ} {t : Token}
    → Stands f at t i → token_size t ≡ 0 → Node w l m f at near mid far x j
no_arm s z = record {
  next = λ d φ v. absurd (omega (arith, some_bytes v, ap token_size s.token));
  map = λ d φ e v k. absurd (omega (arith, some_bytes v, ap token_size s.token));
}

-- ---- a whole part

pub here_read : (m f : List ℕ) → Reads m f → SomeFormulaAt f 0 (get_or m 1 0)
here_read m f w = here (read_formula_at (get_or m 1 0) f w.0 w.1)

pub part_values : {w : List ℕ} {l : Lattice} {m f near mid far x : List ℕ} {i : ℕ} → Node w l m f 0 near mid far x i → CodedValues w l m f x
unfolding value_at round_limit
part_values {l = l} {m} {f} n = record { are = λ φ e. n.map 0 φ (λ v q. l.bottom.0) (read_formula_at (get_or m 1 0) f φ e) (record { at = λ v b. absurd (omega arith) }) }

module _ {w : List ℕ} {l : Lattice} {m f x : List ℕ} (o : ModelOver w l m) (v : CodedValues w l m f x) where
  -- a value, decoded
  pub part_at_lem : (q r : ℕ) → q < get_or m 0 0 → r ≡ decode_in w (get_or x q 0) → ValueAt w l m f q r
  part_at_lem q r k e = record { is = λ φ h. e ∙ map_decoded o.coded (v.are φ h) q k }

  pub part_whole : (r : ℕ) → r ≡ decode_in w (whole_code w l m x) → WholeValue w l m f r
  unfolding whole_value
  part_whole r e = record { is = λ φ h. e ∙ decode_in_lem o.coded (implied o.coded (model_of m).initial (v.are φ h)) (big_meet_lt o.coded (get_or m 0 0) _) }
