-- A law for each arm of `node`, and one for the whole part. Rests on Ends, RoundTrip and Check.
--   tells: the formula that an answer is about
--   forward: an answer is further on than the place, and within the part; shallow: in a part of at most 255 bytes it tells a nesting below 255
--   at_bottom .. at_broken: each arm's answer is the end of the formula at the place, and its facts
--   whole_part: what the check answers for the whole part, by ended, broken and too_long
use Prim.Native.Nat.{ℕ, ◌+◌, ◌-◌, ◌≤◌, ◌<◌}
use mathlib.Core.Path.{◌≡◌, refl, sym, ap, ◌∙◌}
use mathlib.Core.Bool.{Bool, true, false, ◌&&◌}
use mathlib.Core.List.{List, [], ◌∷◌, ◌++◌}
use native.Mathlib.Nat.{zero-add}
use native.Mathlib.Omega.{arith}
use lib.Dec.{ltb, eqb}
use lib.ListN.{length, drop, length-append, length-drop}
use lib.Seq.{drop-drop}
use borrow.Author.Tests.{le-leb, lt-leb, eq-eqb, ne_eqb}
use Rattle.std.specs.Bool.{then_some}
use Rattle.std.specs.Prelude.{Option, Some, None}
use Rattle.theory.specs.Formula.{Formula, bottom, top, prop, negated, var, or, and, AX, EX, mu, nu, nested_binders, nested_AX, fixpoint_free, universal}
use Rattle.model.specs.declared.Proposition.{Proposition}
use Rattle.formula_tokens.specs.declared.Token.{Token}
use Rattle.formula_tokens.specs.declared.Token.TheVariants.{Bottom, Top, Literal, Variable, Two, Next, Fixpoint, End, Broken}
use Rattle.formula_tokens.specs.Tokens.{token_size}
use Rattle.formula_tokens.specs.Sizes.{Stands, stands-within}
use Rattle.formula.specs.Bytes.{bytes_of, Parsed, parsed, unparsed, unary, binary, parse, allowed, whole, formula_reading}
use Rattle.formula.specs.RoundTrip.{bytes_parse, bytes_least, nested_fewer}
use Rattle.formula.specs.ByToken.{by_token, parse_token}
use Rattle.formula.specs.Check.{allowed_under, end_if, end_of, NodeIs, leaf_facts, two_facts, next_facts, fixpoint_facts, map_facts}
use Rattle.formula.specs.Answer.{facts_of, checked}
use Rattle.formula.specs.declared.FormulaFacts.{FormulaFacts}
use Rattle.formula.specs.declared.NodeRead.{NodeRead}
use Rattle.formula.proofs.Ends.{under_or, under_and, under_bottom, under_top, under_prop, under_negated, under_var, under_AX, under_EX, under_mu, under_nu, under_four, facts_or, facts_and, facts_AX, facts_EX, facts_mu, facts_nu, unary_end, never_at, cond_at, cond-broken, length_before, binary_end, binary-broken}

-- ---- the arms of `node`

-- by the token at the position
coded : {b : List ℕ} {at after : ℕ} {t : Token} → Stands b at t after → (n : ℕ) → length b ≤ n + at
    → parse n (drop at b) ≡ by_token (parse (n - 1)) t (drop after b)
coded {b} {at} {after} {t} s n h =
    parse_token n (drop at b) (omega (arith, length-drop at b))
    ∙ ap (λ (u : Token). by_token (parse (n - 1)) u (drop (token_size u) (drop at b))) s.token
    ∙ ap (by_token (parse (n - 1)) t) (drop-drop (token_size t) at b ∙ ap (λ (i : ℕ). drop i b) (sym s.ends))

-- what an answer tells: at the position stand the bytes of a formula, before those that are left; the end and the facts are that formula's
record Tells (b : List ℕ) (at : ℕ) (i : NodeRead) : Type 0 where
  formula : Formula
  left : List ℕ
  bytes : drop at b ≡ bytes_of formula ++ left
  ends : i.end ≡ length b - length left
  facts : i.facts ≡ facts_of formula

tells : {b : List ℕ} {at k d : ℕ} (i : NodeRead) → NodeIs b at k d (Some i) → Tells b at i
tells {b} {at} {k} {d} i e = go (parse (length b) (drop at b)) refl (e.is (length b) (omega arith))
  where
    go : (p : Parsed) → parse (length b) (drop at b) ≡ p → Some i ≡ end_of k d (length b) p → Tells b at i
    go unparsed q h = absurd (never_at i h)
    go (parsed a t) q h =
        let s = cond_at (allowed_under k d a) i (length b - length t) (facts_of a) h in
        record { formula = a; left = t; bytes = bytes_parse (length b) (drop at b) a t q; ends = s.1; facts = s.2 }

-- the answer is further on than the position, and within the part
pub forward : {b : List ℕ} {at k d : ℕ} (i : NodeRead) → NodeIs b at k d (Some i) → (at < i.end) × (i.end ≤ length b)
forward {b} {at} i e =
    let s = tells i e in
    omega (arith, ap length s.bytes, s.ends, length-drop at b, length-append (bytes_of s.formula) s.left, bytes_least s.formula)

-- in a part of at most 255 bytes the nesting that an answer tells is below 255
pub shallow : {b : List ℕ} {at k d : ℕ} (i : NodeRead) → NodeIs b at k d (Some i) → length b ≤ 255 → i.facts.nesting < 255
shallow {b} {at} i e l =
    let s = tells i e in
    omega (arith, ap length s.bytes, ap (λ (x : FormulaFacts). x.nesting) s.facts, length-drop at b, length-append (bytes_of s.formula) s.left, nested_fewer s.formula)

module _ {b : List ℕ} {at after k d : ℕ} where
  arm : {t : Token} {r : Option NodeRead} → Stands b at t after
      → ((n : ℕ) → length b ≤ n + (at + 1) → r ≡ end_of k d (length b) (by_token (parse n) t (drop after b))) → NodeIs b at k d r
  arm s f = record { is = λ n h. rw (coded s n h) (f (n - 1) (omega arith)) }

  -- each kind of token: φ is a formula of one token, g makes a formula of its parts
  leaf_arm : {t : Token} (φ : Formula) (x : Bool) → ((n : ℕ) (y : List ℕ) → by_token (parse n) t y ≡ parsed φ y)
      → allowed_under k d φ ≡ x → facts_of φ ≡ leaf_facts → 1 ≤ token_size t → Stands b at t after → NodeIs b at k d (end_if x after leaf_facts)
  leaf_arm φ x u w v l s = arm s (λ n h. rw (u n (drop after b), w, v, length_before b after (stands-within s l).1))

  unary-arm : {t : Token} (d' : ℕ) (g : Formula → Formula) (m : FormulaFacts → FormulaFacts) {r : Option NodeRead} → ((n : ℕ) (y : List ℕ) → by_token (parse n) t y ≡ unary g (parse n y))
      → ((f : Formula) → allowed_under k d (g f) ≡ allowed_under k d' f) → ((f : Formula) → facts_of (g f) ≡ m (facts_of f)) → token_size t ≡ 1
      → NodeIs b after k d' r → Stands b at t after → NodeIs b at k d (map_facts m r)
  unary-arm d' g m u w v l e s =
      arm s (λ n h. ap (map_facts m) (e.is n (omega (arith, s.ends))) ∙ rw (u n (drop after b)) (unary_end k d g m d' (length b) w v (parse n (drop after b))))

  module _ {t : Token} (g : Formula → Formula → Formula) (u : (n : ℕ) (y : List ℕ) → by_token (parse n) t y ≡ binary g (parse n) (parse n y))
      (w : (f h : Formula) → allowed_under k d (g f h) ≡ (allowed_under k d f && allowed_under k d h))
      (l : token_size t ≡ 1) (s : Stands b at t after) where
    binary-arm : ((f h : Formula) → facts_of (g f h) ≡ two_facts (facts_of f) (facts_of h)) → {r : Option NodeRead} (i : NodeRead) → NodeIs b after k d (Some i) → NodeIs b i.end k d r → NodeIs b at k d (map_facts (two_facts i.facts) r)
    binary-arm v {r} i e f =
        arm s (λ n h.
        let m : length b ≤ n + after = omega (arith, s.ends) in
        rw (u n (drop after b)) (binary_end b k d n after (stands-within s (omega arith)).1 g w v i r (parse n (drop after b)) refl (e.is n m) (f.is n (omega (arith, (forward i e).0)))))

    broken-arm : NodeIs b after k d None → NodeIs b at k d None
    broken-arm e = arm s (λ n h. rw (u n (drop after b)) (binary-broken b k d n after (stands-within s (omega arith)).1 g w (parse n (drop after b)) (e.is n (omega (arith, s.ends)))))

  -- the tokens
  pub at_bottom : d ≤ 3 → Stands b at Bottom after → NodeIs b at k d (end_if true after leaf_facts)
  unfolding by_token token_size nested_AX fixpoint_free universal
  at_bottom s = leaf_arm bottom true (λ n y. refl) (under_bottom k d s) refl (omega arith)

  pub at_top : d ≤ 3 → Stands b at Top after → NodeIs b at k d (end_if true after leaf_facts)
  unfolding by_token token_size nested_AX fixpoint_free universal
  at_top s = leaf_arm top true (λ n y. refl) (under_top k d s) refl (omega arith)

  pub at_literal : (p : Proposition) (x : Bool) → d ≤ 3 → Stands b at (Literal p x) after → NodeIs b at k d (end_if (ltb p.0 k) after leaf_facts)
  unfolding by_token token_size nested_AX fixpoint_free universal
  at_literal p false s = leaf_arm (prop p.0) _ (λ n y. refl) (under_prop k d s p.0) refl (omega arith)
  at_literal p true s = leaf_arm (negated p.0) _ (λ n y. refl) (under_negated k d s p.0) refl (omega arith)

  pub at_variable : (v : ℕ) → d ≤ 3 → Stands b at (Variable v) after → NodeIs b at k d (end_if (ltb v d) after leaf_facts)
  unfolding by_token token_size nested_AX fixpoint_free universal
  at_variable v s = leaf_arm (var v) _ (λ n y. refl) (under_var k d s v) refl (omega arith)

  pub at_two : {r : Option NodeRead} (x : Bool) → Stands b at (Two x) after
      → (i : NodeRead) → NodeIs b after k d (Some i) → NodeIs b i.end k d r → NodeIs b at k d (map_facts (two_facts i.facts) r)
  unfolding by_token token_size
  at_two true s i e = binary-arm or (λ n y. refl) (under_or k d) refl s facts_or i e
  at_two false s i e = binary-arm and (λ n y. refl) (under_and k d) refl s facts_and i e

  pub at_two-broken : (x : Bool) → Stands b at (Two x) after → NodeIs b after k d None → NodeIs b at k d None
  unfolding by_token token_size
  at_two-broken true s = broken-arm or (λ n y. refl) (under_or k d) refl s
  at_two-broken false s = broken-arm and (λ n y. refl) (under_and k d) refl s

  pub at_next : {r : Option NodeRead} (x : Bool) → NodeIs b after k d r → Stands b at (Next x) after → NodeIs b at k d (map_facts (next_facts x) r)
  unfolding by_token token_size
  at_next true = unary-arm d AX (next_facts true) (λ n y. refl) (under_AX k d) facts_AX refl
  at_next false = unary-arm d EX (next_facts false) (λ n y. refl) (under_EX k d) facts_EX refl

  pub at_fixpoint : {r : Option NodeRead} (x : Bool) → NodeIs b after k (d + 1) r → Stands b at (Fixpoint x) after → NodeIs b at k d (map_facts fixpoint_facts r)
  unfolding by_token token_size
  at_fixpoint true = unary-arm (d + 1) mu fixpoint_facts (λ n y. refl) (under_mu k d) facts_mu refl
  at_fixpoint false = unary-arm (d + 1) nu fixpoint_facts (λ n y. refl) (under_nu k d) facts_nu refl

  -- a binder under three
  pub at_fourth : (x : Bool) → 3 ≤ d → Stands b at (Fixpoint x) after → NodeIs b at k d None
  at_fourth x s = at_fixpoint x (record { is = λ n h. no_end (parse n (drop after b)) })
    where
      no_end : (p : Parsed) → None ≡ end_of k (d + 1) (length b) p
      no_end unparsed = refl
      no_end (parsed f t) = rw (under_four k (d + 1) (omega arith) f)

  -- no formula: past the end, and at a broken place
  pub at_end : Stands b at End after → NodeIs b at k d None
  unfolding by_token
  at_end s = arm s (λ n h. refl)

  pub at_broken : Stands b at Broken after → NodeIs b at k d None
  unfolding by_token
  at_broken s = arm s (λ n h. refl)

-- ---- the whole part

allowed-zero : (k : ℕ) (f : Formula) → allowed_under k 0 f ≡ allowed k f
unfolding allowed_under
allowed-zero k f = rw (zero-add (nested_binders f))

module _ (b : List ℕ) (k : ℕ) (l : length b ≤ 255) where
  reading : formula_reading k b ≡ whole k (parse (length b) b)
  unfolding formula_reading
  reading = rw (le-leb (length b) 255 l)

  -- a formula that keeps the rules: it is accepted where it ends with the part; and none
  pub ended : (e : NodeRead) → NodeIs b 0 k 0 (Some e) → then_some (eqb e.end (length b)) e.facts ≡ checked (formula_reading k b)
  ended e h = rw reading (go (parse (length b) b) refl (h.is (length b) (omega arith)))
    where
      go : (p : Parsed) → parse (length b) b ≡ p → Some e ≡ end_of k 0 (length b) p → then_some (eqb e.end (length b)) e.facts ≡ checked (whole k p)
      go unparsed w s = absurd (never_at e s)
      go (parsed a []) w s =
          let h = cond_at (allowed_under k 0 a) e _ (facts_of a) s in
          rw (eq-eqb e.end (length b) (omega (arith, h.1)), ← allowed-zero k a, h.0, h.2)
      go (parsed a (c ∷ t)) w s =
          let h = cond_at (allowed_under k 0 a) e _ (facts_of a) s in
          rw (ne_eqb e.end (length b) (λ q. omega (arith, h.1, ap length (bytes_parse (length b) b a (c ∷ t) w), length-append (bytes_of a) (c ∷ t))))

  pub broken : NodeIs b 0 k 0 None → None ≡ checked (formula_reading k b)
  broken h = rw reading (go (parse (length b) b) (h.is (length b) (omega arith)))
    where
      go : (p : Parsed) → None ≡ end_of k 0 (length b) p → None ≡ checked (whole k p)
      go unparsed s = refl
      go (parsed a []) s = rw (← allowed-zero k a, cond-broken (allowed_under k 0 a) (length b - 0) (facts_of a) s)
      go (parsed a (c ∷ t)) s = refl

-- a part over 255 bytes
pub too_long : (b : List ℕ) (k : ℕ) → 255 < length b → None ≡ checked (formula_reading k b)
unfolding formula_reading
too_long b k l = rw (lt-leb (length b) 255 l)

pub ruleset whole_part = (ended, broken, too_long)
