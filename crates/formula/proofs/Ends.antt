-- Where a formula ends and its facts, from where its parts end and theirs, and the rules under binders by the formula's shape. Rests on
-- RoundTrip and Check.
--   under_or .. under_four: the rules for a formula, from those for its parts; under four binders nothing is allowed
--   facts_or .. facts_nu: the facts of a formula, from those of its parts
--   unary_end, binary_end, binary-broken: where a formula of one part or of two ends, and its facts
--   never_at, cond_at, cond-broken: an answer that is given under a test
--   length_before: how many bytes stand before a place
use Prim.Native.Nat.{ℕ, suc, max, ◌+◌, ◌-◌, ◌≤◌}
use mathlib.Core.Path.{◌≡◌, refl, sym, ap, ◌∙◌}
use mathlib.Core.Bool.{Bool, true, false, not, ◌&&◌, and-true, or-false, or-true}
use mathlib.Core.List.{List, ◌++◌}
use native.Mathlib.Nat.{add-zero}
use native.Mathlib.Numerals.{add-one}
use native.Mathlib.Omega.{arith}
use lib.Dec.{ltb, leb}
use lib.ListN.{length, drop, length-append, length-drop}
use lib.Seq.{drop-drop, drop_at}
use borrow.Author.Tests.{le-leb, lt-leb, leb-true}
use Rattle.std.specs.Prelude.{Option, Some, None}
use Rattle.theory.specs.Formula.{Formula, bottom, top, prop, negated, var, or, and, AX, EX, mu, nu, closed_under, over_props, nested_binders, nested_AX, fixpoint_free, universal}
use Rattle.theory.specs.TestLaws.{and_l, and_r, and_in, and_false, not_and, bool_same}
use Rattle.formula.specs.Bytes.{bytes_of, Parsed, parsed, unparsed, unary, binary, parse}
use Rattle.formula.specs.RoundTrip.{bytes_parse}
use Rattle.formula.specs.Answer.{facts_of}
use Rattle.formula.specs.Check.{allowed_under, end_if, end_of, two_facts, next_facts, fixpoint_facts, map_facts}
use Rattle.formula.specs.declared.FormulaFacts.{FormulaFacts}
use Rattle.formula.specs.declared.NodeRead.{NodeRead}

-- ---- the rules under binders, by the formula's shape

-- three rules for each of two parts, sorted by the part
shuffled : (a b c d e f : Bool) → (a && b && (c && d) && (e && f)) ≡ (a && c && e && (b && d && f))
shuffled true b true d true f = refl
shuffled true b true d false f = and_false (b && d)
shuffled true true false d e f = refl
shuffled true false false d e f = refl
shuffled false b c d e f = refl

-- the deeper of two parts decides
deepest : (d x y : ℕ) → leb (d + max x y) 3 ≡ (leb (d + x) 3 && leb (d + y) 3)
deepest d x y =
    bool_same _ (leb (d + x) 3 && leb (d + y) 3)
    (λ e. let h = leb-true (d + max x y) 3 e in and_in (leb (d + x) 3) (leb (d + y) 3) (le-leb (d + x) 3 (omega arith)) (le-leb (d + y) 3 (omega arith)))
    (λ e. let h = leb-true (d + x) 3 (and_l _ (leb (d + y) 3) e) in let g = leb-true (d + y) 3 (and_r (leb (d + x) 3) _ e) in le-leb (d + max x y) 3 (omega arith))

one_more : (d n : ℕ) → d + suc n ≡ d + 1 + n
one_more d n = omega arith

-- the rules for a formula of two parts are those for both
joined : (k d : ℕ) (f g : Formula) → (closed_under d f && closed_under d g && (over_props k f && over_props k g) && leb (d + max (nested_binders f) (nested_binders g)) 3) ≡ (allowed_under k d f && allowed_under k d g)
unfolding allowed_under
joined k d f g =
    rw (deepest d (nested_binders f) (nested_binders g))
    (shuffled (closed_under d f) (closed_under d g) (over_props k f) (over_props k g) (leb (d + nested_binders f) 3) (leb (d + nested_binders g) 3))

module _ (k d : ℕ) where
  pub under_or : (f g : Formula) → allowed_under k d (or f g) ≡ (allowed_under k d f && allowed_under k d g)
  unfolding allowed_under closed_under over_props nested_binders
  under_or f g = joined k d f g

  pub under_and : (f g : Formula) → allowed_under k d (and f g) ≡ (allowed_under k d f && allowed_under k d g)
  unfolding allowed_under closed_under over_props nested_binders
  under_and f g = joined k d f g

  pub under_bottom : d ≤ 3 → allowed_under k d bottom ≡ true
  unfolding allowed_under closed_under over_props nested_binders
  under_bottom l = le-leb (d + 0) 3 (omega arith)

  pub under_top : d ≤ 3 → allowed_under k d top ≡ true
  unfolding allowed_under closed_under over_props nested_binders
  under_top l = le-leb (d + 0) 3 (omega arith)

  pub under_prop : d ≤ 3 → (p : ℕ) → allowed_under k d (prop p) ≡ ltb p k
  unfolding allowed_under closed_under over_props nested_binders
  under_prop l p = rw (le-leb (d + 0) 3 (omega arith)) (and-true (ltb p k))

  pub under_negated : d ≤ 3 → (p : ℕ) → allowed_under k d (negated p) ≡ ltb p k
  unfolding allowed_under closed_under over_props nested_binders
  under_negated l p = rw (le-leb (d + 0) 3 (omega arith)) (and-true (ltb p k))

  pub under_var : d ≤ 3 → (v : ℕ) → allowed_under k d (var v) ≡ ltb v d
  unfolding allowed_under closed_under over_props nested_binders
  under_var l v = rw (le-leb (d + 0) 3 (omega arith)) (and-true (ltb v d && true) ∙ and-true (ltb v d))

  pub under_AX : (f : Formula) → allowed_under k d (AX f) ≡ allowed_under k d f
  unfolding allowed_under closed_under over_props nested_binders
  under_AX f = refl

  pub under_EX : (f : Formula) → allowed_under k d (EX f) ≡ allowed_under k d f
  unfolding allowed_under closed_under over_props nested_binders
  under_EX f = refl

  pub under_mu : (f : Formula) → allowed_under k d (mu f) ≡ allowed_under k (d + 1) f
  unfolding allowed_under closed_under over_props nested_binders
  under_mu f = rw (one_more d (nested_binders f), add-one)

  pub under_nu : (f : Formula) → allowed_under k d (nu f) ≡ allowed_under k (d + 1) f
  unfolding allowed_under closed_under over_props nested_binders
  under_nu f = rw (one_more d (nested_binders f), add-one)

  -- nothing is allowed under four binders
  pub under_four : 4 ≤ d → (f : Formula) → allowed_under k d f ≡ false
  unfolding allowed_under
  under_four l f = rw (lt-leb (d + nested_binders f) 3 (omega arith)) (and_false (closed_under d f && over_props k f))

-- ---- the facts, by the formula's shape

joined-facts : (f g : Formula) → ◌≡◌ {A = FormulaFacts} (record { nesting = max (nested_AX f) (nested_AX g); fixpoint = not (fixpoint_free f && fixpoint_free g); ex = not (universal f && universal g) }) (two_facts (facts_of f) (facts_of g))
joined-facts f g = rw (not_and (fixpoint_free f) (fixpoint_free g), not_and (universal f) (universal g))

pub facts_or : (f g : Formula) → facts_of (or f g) ≡ two_facts (facts_of f) (facts_of g)
unfolding nested_AX fixpoint_free universal
facts_or f g = joined-facts f g

pub facts_and : (f g : Formula) → facts_of (and f g) ≡ two_facts (facts_of f) (facts_of g)
unfolding nested_AX fixpoint_free universal
facts_and f g = joined-facts f g

pub facts_AX : (f : Formula) → facts_of (AX f) ≡ next_facts true (facts_of f)
unfolding nested_AX fixpoint_free universal
facts_AX f = rw (or-false (not (universal f)), add-one)

pub facts_EX : (f : Formula) → facts_of (EX f) ≡ next_facts false (facts_of f)
unfolding nested_AX fixpoint_free universal
facts_EX f = rw (or-true (not (universal f)), add-zero (nested_AX f))

pub facts_mu : (f : Formula) → facts_of (mu f) ≡ fixpoint_facts (facts_of f)
unfolding nested_AX fixpoint_free universal
facts_mu f = refl

pub facts_nu : (f : Formula) → facts_of (nu f) ≡ fixpoint_facts (facts_of f)
unfolding nested_AX fixpoint_free universal
facts_nu f = refl

-- ---- the end of a formula and its facts, from those of its parts

map_end : (h : FormulaFacts → FormulaFacts) (t : Bool) (i : ℕ) (x : FormulaFacts) → map_facts h (end_if t i x) ≡ end_if t i (h x)
map_end h true i x = refl
map_end h false i x = refl

-- a formula of one part ends where its part does; h makes its facts from those of the part
pub unary_end : (k d : ℕ) (g : Formula → Formula) (h : FormulaFacts → FormulaFacts) (d' n : ℕ) → ((a : Formula) → allowed_under k d (g a) ≡ allowed_under k d' a)
    → ((a : Formula) → facts_of (g a) ≡ h (facts_of a)) → (p : Parsed) → map_facts h (end_of k d' n p) ≡ end_of k d n (unary g p)
unary_end k d g h d' n w v unparsed = refl
unary_end k d g h d' n w v (parsed a t) = rw (w a, v a) (map_end h (allowed_under k d' a) (n - length t) (facts_of a))

unary-broken : (k d : ℕ) (g : Formula → Formula) (n : ℕ) → ((a : Formula) → allowed_under k d (g a) ≡ false) → (p : Parsed) → None ≡ end_of k d n (unary g p)
unary-broken k d g n w unparsed = refl
unary-broken k d g n w (parsed a t) = rw (w a)

pub never_at : (i : NodeRead) → Some i ≡ None → ⊥
never_at i e = let z : ◌≡◌ {A = ℕ} 0 1 = cc in omega arith

-- an answer that is given under a test
pub cond_at : (t : Bool) (i : NodeRead) (j : ℕ) (x : FormulaFacts) → Some i ≡ end_if t j x → (t ≡ true) × (i.end ≡ j) × (i.facts ≡ x)
cond_at true i j x e = let s : i ≡ record { end = j; facts = x } = cc in (refl, ap (λ (y : NodeRead). y.end) s, ap (λ (y : NodeRead). y.facts) s)
cond_at false i j x e = absurd (never_at i e)

pub cond-broken : (t : Bool) (j : ℕ) (x : FormulaFacts) → None ≡ end_if t j x → t ≡ false
cond-broken true j x e = absurd (never_at (record { end = j; facts = x }) (sym e))
cond-broken false j x e = refl

-- what comes after a front that begins at j is the end of b
rest_at : (b : List ℕ) (j : ℕ) (front t : List ℕ) → j ≤ length b → drop j b ≡ front ++ t → drop (length b - length t) b ≡ t
rest_at b j front t l e =
    let h = length-drop j b in
    let g = length-append front t in
    let s : length b - length t ≡ j + length front = omega (arith, ap length e) in
    rw s (sym (drop-drop (length front) j b) ∙ rw e (drop_at front t (length front) refl))

-- how many bytes stand before j
pub length_before : (b : List ℕ) (j : ℕ) → j ≤ length b → length b - length (drop j b) ≡ j
length_before b j l = omega (arith, length-drop j b)

module _ (b : List ℕ) (k d n j : ℕ) (l : j ≤ length b) (g : Formula → Formula → Formula) (w : (a c : Formula) → allowed_under k d (g a c) ≡ (allowed_under k d a && allowed_under k d c)) where
  -- a formula of two parts ends where its second part does, which begins where the first ends
  pub binary_end : ((a c : Formula) → facts_of (g a c) ≡ two_facts (facts_of a) (facts_of c)) → (i : NodeRead) (r : Option NodeRead) (p : Parsed) → parse n (drop j b) ≡ p → Some i ≡ end_of k d (length b) p → r ≡ end_of k d (length b) (parse n (drop i.end b))
      → map_facts (two_facts i.facts) r ≡ end_of k d (length b) (binary g (parse n) p)
  binary_end v i r unparsed q e h = absurd (never_at i e)
  binary_end v i r (parsed a t) q e h =
      let s = cond_at (allowed_under k d a) i (length b - length t) (facts_of a) e in
      let u : drop i.end b ≡ t = rw s.1 (rest_at b j (bytes_of a) t l (bytes_parse n (drop j b) a t q)) in
      let z : (c : Formula) → facts_of (g a c) ≡ two_facts i.facts (facts_of c) = λ c. v a c ∙ rw s.2 in
      rw (h, u) (unary_end k d (g a) (two_facts i.facts) d (length b) (λ c. w a c ∙ rw s.0) z (parse n t))

  pub binary-broken : (p : Parsed) → None ≡ end_of k d (length b) p → None ≡ end_of k d (length b) (binary g (parse n) p)
  binary-broken unparsed e = refl
  binary-broken (parsed a t) e = unary-broken k d (g a) (length b) (λ c. w a c ∙ rw (cond-broken (allowed_under k d a) (length b - length t) (facts_of a) e)) (parse n t)
