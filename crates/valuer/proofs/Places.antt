-- What the token at a place says of the formula that stands there, and where its parts stand. Rests on Node, formula's ByToken.
--   build: the formula of a token and two parts
--   by_token_lem: what holds of every formula that begins with the token at a place holds of the one there; some_bytes: that token has bytes
--   Parts: two parts stand after a token; of_or, of_and; one part: of_AX, of_EX, and under one more binder of_mu, of_nu
--   read_formula_at: a part that is read as φ spells it from its first byte on
use Prim.Native.Nat.{ℕ, suc, ◌+◌, ◌≤◌, max}
use mathlib.Core.Path.{◌≡◌, refl, sym, ap, ◌∙◌, subst}
use mathlib.Core.Bool.{true, false, ◌&&◌}
use mathlib.Core.List.{List, [], ◌∷◌, ◌++◌, append_assoc, append-nil}
use native.Mathlib.Omega.{arith}
use lib.ListN.{length, drop}
use lib.Seq.{drop-drop, drop-append_seam}
use Rattle.theory.specs.Formula.{Formula, bottom, top, prop, negated, var, or, and, AX, EX, mu, nu, closed_under, over_props, nested_binders}
use Rattle.theory.specs.TestLaws.{and_l, and_r}
use Rattle.formula_tokens.specs.declared.Token.{Token}
use Rattle.formula_tokens.specs.declared.Token.TheVariants.{Bottom, Top, Literal, Variable, Two, Next, Fixpoint, End, Broken}
use Rattle.formula_tokens.specs.Tokens.{token_of, token_size, token_at, node_of}
use Rattle.formula.specs.Bytes.{bytes_of, read, formula_reading}
use Rattle.formula.specs.RoundTrip.{formula_part}
use Rattle.formula.specs.ByToken.{token_bytes}
use Rattle.valuer.specs.Node.{FormulaAt}

-- ---- a formula by its first token and its parts

-- the end and a broken place begin no formula
abbrev pub build : Token → Formula → Formula → Formula
build Bottom g h = bottom
build Top g h = top
build (Literal p false) g h = prop p.0
build (Literal p true) g h = negated p.0
build (Variable v) g h = var v
build (Two true) g h = or g h
build (Two false) g h = and g h
build (Next true) g h = AX g
build (Next false) g h = EX g
build (Fixpoint true) g h = mu g
build (Fixpoint false) g h = nu g
build End g h = bottom
build Broken g h = bottom

-- what a formula is built of
record Shape (φ : Formula) : Type 0 where
  first : Formula
  second : Formula
  built : build (node_of φ) first second ≡ φ
  least : 1 ≤ token_size (node_of φ)

made : {φ : Formula} (g h : Formula) → build (node_of φ) g h ≡ φ → 1 ≤ token_size (node_of φ) → Shape φ
made g h e l = record { first = g; second = h; built = e; least = l }

shape : (φ : Formula) → Shape φ
unfolding node_of token_size
shape bottom = made bottom bottom refl (omega arith)
shape top = made bottom bottom refl (omega arith)
shape (prop p) = made bottom bottom refl (omega arith)
shape (negated p) = made bottom bottom refl (omega arith)
shape (var v) = made bottom bottom refl (omega arith)
shape (or f g) = made f g refl (omega arith)
shape (and f g) = made f g refl (omega arith)
shape (AX f) = made f bottom refl (omega arith)
shape (EX f) = made f bottom refl (omega arith)
shape (mu f) = made f bottom refl (omega arith)
shape (nu f) = made f bottom refl (omega arith)

module _ {f : List ℕ} {at d k : ℕ} {φ : Formula} (s : FormulaAt f at d k φ) where
  headed : token_at f at ≡ node_of φ
  headed = ap token_of s.bytes ∙ token_bytes φ s.rest

  -- the token there is no end and not broken
  pub some_bytes : 1 ≤ token_size (token_at f at)
  some_bytes = omega (arith, ap token_size headed, (shape φ).least)

  pub by_token_lem : (t : Token) → token_at f at ≡ t → (P : Formula → Type 0) → ((g h : Formula) → P (build t g h)) → P φ
  by_token_lem t e P w =
      let u = shape φ in
      subst P u.built (subst (λ (x : Token). P (build x u.first u.second)) (sym e ∙ headed) (w u.first u.second))

-- ---- where the parts of a formula stand

after : (f : List ℕ) (at : ℕ) (xs ys : List ℕ) → drop at f ≡ xs ++ ys → drop (at + length xs) f ≡ ys
after f at xs ys e = sym (drop-drop (length xs) at f) ∙ ap (drop (length xs)) e ∙ drop-append_seam xs ys

-- what stands after a code
behind : (f : List ℕ) (at i c : ℕ) (xs : List ℕ) → i ≡ at + 1 → drop at f ≡ c ∷ xs → drop i f ≡ xs
behind f at i c xs z e = ap (λ (j : ℕ). drop j f) z ∙ after f at (c ∷ []) xs e

-- two parts, the first at the place i, the second where the first ends
pub record Parts (f : List ℕ) (i d k : ℕ) (g h : Formula) : Type 0 where
  pub first : FormulaAt f i d k g
  pub second : FormulaAt f (i + length (bytes_of g)) d k h

module _ {f : List ℕ} {at i d k : ℕ} (z : i ≡ at + 1) where
  -- one part, under d' binders
  one_part : (c d' : ℕ) (ψ g : Formula) → bytes_of ψ ≡ c ∷ bytes_of g → closed_under d ψ ≡ closed_under d' g → over_props k ψ ≡ over_props k g
      → nested_binders g + d' ≤ nested_binders ψ + d → FormulaAt f at d k ψ → FormulaAt f i d' k g
  one_part c d' ψ g b p o n s = record {
    rest = s.rest;
    bytes = behind f at i c _ z (s.bytes ∙ ap (λ (l : List ℕ). l ++ s.rest) b);
    is_closed = sym p ∙ s.is_closed;
    over = sym o ∙ s.over;
    nested = omega (arith, s.nested);
  }

  pub of_AX : (g : Formula) → FormulaAt f at d k (AX g) → FormulaAt f i d k g
  unfolding bytes_of closed_under over_props nested_binders
  of_AX g = one_part 7 d (AX g) g refl refl refl (omega arith)

  pub of_EX : (g : Formula) → FormulaAt f at d k (EX g) → FormulaAt f i d k g
  unfolding bytes_of closed_under over_props nested_binders
  of_EX g = one_part 8 d (EX g) g refl refl refl (omega arith)

  pub of_mu : (g : Formula) → FormulaAt f at d k (mu g) → FormulaAt f i (suc d) k g
  unfolding bytes_of closed_under over_props nested_binders
  of_mu g = one_part 9 (suc d) (mu g) g refl refl refl (omega arith)

  pub of_nu : (g : Formula) → FormulaAt f at d k (nu g) → FormulaAt f i (suc d) k g
  unfolding bytes_of closed_under over_props nested_binders
  of_nu g = one_part 10 (suc d) (nu g) g refl refl refl (omega arith)

  two_parts : (c : ℕ) (ψ g h : Formula) → bytes_of ψ ≡ c ∷ bytes_of g ++ bytes_of h → closed_under d ψ ≡ (closed_under d g && closed_under d h) → over_props k ψ ≡ (over_props k g && over_props k h)
      → nested_binders ψ ≡ max (nested_binders g) (nested_binders h) → FormulaAt f at d k ψ → Parts f i d k g h
  two_parts c ψ g h b p o n s =
      let both : drop i f ≡ bytes_of g ++ (bytes_of h ++ s.rest) =
      behind f at i c _ z (s.bytes ∙ ap (λ (l : List ℕ). l ++ s.rest) b) ∙ append_assoc (bytes_of g) (bytes_of h) s.rest in
      record {
        first = record {
          rest = bytes_of h ++ s.rest;
          bytes = both;
          is_closed = and_l (closed_under d g) (closed_under d h) (sym p ∙ s.is_closed);
          over = and_l (over_props k g) (over_props k h) (sym o ∙ s.over);
          nested = omega (arith, s.nested);
        };
        second = record {
          rest = s.rest;
          bytes = after f i (bytes_of g) (bytes_of h ++ s.rest) both;
          is_closed = and_r (closed_under d g) (closed_under d h) (sym p ∙ s.is_closed);
          over = and_r (over_props k g) (over_props k h) (sym o ∙ s.over);
          nested = omega (arith, s.nested);
        };
      }

  pub of_or : (g h : Formula) → FormulaAt f at d k (or g h) → Parts f i d k g h
  unfolding bytes_of closed_under over_props nested_binders
  of_or g h = two_parts 5 (or g h) g h refl refl refl refl

  pub of_and : (g h : Formula) → FormulaAt f at d k (and g h) → Parts f i d k g h
  unfolding bytes_of closed_under over_props nested_binders
  of_and g h = two_parts 6 (and g h) g h refl refl refl refl

-- ---- a part that is read as φ spells it from its first byte on

pub read_formula_at : (k : ℕ) (f : List ℕ) (φ : Formula) → formula_reading k f ≡ read φ → FormulaAt f 0 0 k φ
read_formula_at k f φ e =
    let w = formula_part k f φ e in
    record { rest = []; bytes = w.bytes ∙ sym (append-nil (bytes_of φ)); is_closed = w.is_closed; over = w.props; nested = omega (arith, w.binders) }
