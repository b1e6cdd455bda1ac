-- Accepted cases that say the same have the same parts: their bytes are what they say. Rests on Exactly and Accepted, lattice's Numbered, and on
-- where the values of a part stand: theory's Part, model's Places and Accepted.
--   same_parts: accepted cases that say the same (SameCase) have the same parts
--   same_content, same_content_exactly: they have the same content, and only they do
use Rattle.std.specs.Prelude.{ℕ, zero, suc, ◌+◌, ◌*◌, ◌-◌, ◌<◌, ◌≡◌, refl, Bool, true, false, ◌↔◌, List, [], ltb, eqb, length, get_or}
use Rattle.std.proofs.Common.{sym, ap, ap₂, ◌∙◌, arith, ltb-true, ltb-false, eqb-true, ext_get_or}
use Rattle.std.proofs.lemmas.Bool.{eqb-false}
use Rattle.theory.specs.Formula.{Formula, bottom}
use Rattle.theory.specs.Model.{Model}
use Rattle.theory.specs.Part.{LatticePart, explicit_part, model_of, model_length, ModelShape}
use Rattle.lattice.specs.Reading.{is_panel, lattice_of, lattice_form}
use Rattle.lattice.specs.Conditions.{ExplicitForm}
use Rattle.lattice.specs.Numbered.{explicit_out, panel_is}
use Rattle.model.specs.Places.{row_le}
use Rattle.model.proofs.Accepted.{cell}
use Rattle.formula.specs.Bytes.{bytes_of}
use Rattle.casefile.specs.Reading.{Content, content_parts, case_reading, content}
use Rattle.casefile.specs.Conditions.{CaseOf, SameModel, SameCase}
use Rattle.casefile.proofs.Exactly.{content_exactly}
use Rattle.casefile.proofs.Accepted.{content_unique}

-- ---- the bytes of two parts, stretch by stretch

-- bytes that are 0 or 1
bit_same : (a b : ℕ) → a < 2 → b < 2 → eqb a 1 ≡ eqb b 1 → a ≡ b
bit_same a b l m e = go (eqb b 1) e refl
  where
    go : (t : Bool) → eqb a 1 ≡ t → eqb b 1 ≡ t → a ≡ b
    go true p q = eqb-true a 1 p ∙ sym (eqb-true b 1 q)
    go false p q = omega (arith, eqb-false a 1 p, eqb-false b 1 q)

module _ (x y : List ℕ) where
  -- the first n bytes are the same
  abbrev SameBelow : ℕ → Type 0
  SameBelow n = (i : ℕ) → i < n → get_or x i 0 ≡ get_or y i 0

  -- m bytes more
  below_more : (n m : ℕ) → SameBelow n → ((i : ℕ) → i < m → get_or x (n + i) 0 ≡ get_or y (n + i) 0) → SameBelow (n + m)
  below_more n m h k i l = go (ltb i n) refl
    where
      go : (t : Bool) → ltb i n ≡ t → get_or x i 0 ≡ get_or y i 0
      go true e = h i (ltb-true i n e)
      go false e =
          let f = ltb-false i n e in
          let z : n + (i - n) ≡ i = omega arith in
          rw z at (k (i - n) (omega arith))

  -- n rows of w bytes more
  below_rows : (at n w : ℕ) → SameBelow at → ((q : ℕ) → q < n → (p : ℕ) → p < w → get_or x (at + (q * w + p)) 0 ≡ get_or y (at + (q * w + p)) 0) → SameBelow (at + n * w)
  below_rows at n w h k = below_more at (n * w) h (λ j l. let c = cell j n w l in rw c.is at (k c.row c.row_lt c.column c.column_lt))

  -- model parts whose models say the same
  model_same : ModelShape x → ModelShape y → SameModel (model_of x) (model_of y) → x ≡ y
  model_same s t m = ext_get_or 0 x y (s.exact ∙ ap₂ model_length m.states m.propositions ∙ sym t.exact) (rw s.exact transitions)
    where
      sizes : SameBelow 2
      sizes zero l = m.states
      sizes (suc zero) l = m.propositions
      sizes (suc (suc i)) l = absurd (omega arith)

      labels : SameBelow (2 + get_or x 0 0 + get_or x 0 0 * get_or x 1 0)
      labels = below_rows _ _ _ (below_more 2 _ sizes m.initial) (rw (← m.states, ← m.propositions) at m.label)

      transitions : SameBelow (model_length (get_or x 0 0) (get_or x 1 0))
      transitions = below_rows _ _ _ labels (rw (← m.states, ← m.propositions) at m.transition)

  -- explicit lattice parts of n elements: the first byte, the complements, and of each order byte whether it is 1
  explicit_same : (n : ℕ) → ExplicitForm n x → ExplicitForm n y → get_or x 0 0 ≡ get_or y 0 0 → ((a : ℕ) → a < n → get_or x (1 + a) 0 ≡ get_or y (1 + a) 0)
      → ((a : ℕ) → a < n → (b : ℕ) → b < n → eqb (get_or x (1 + n + (a * n + b)) 0) 1 ≡ eqb (get_or y (1 + n + (a * n + b)) 0) 1) → x ≡ y
  explicit_same n f g e h k = ext_get_or 0 x y (f.exact ∙ sym g.exact) (rw f.exact (below_rows (1 + n) n n (below_more 1 n size h) orders))
    where
      size : SameBelow 1
      size zero l = e
      size (suc i) l = absurd (omega arith)

      orders : (a : ℕ) → a < n → (b : ℕ) → b < n → get_or x (1 + n + (a * n + b)) 0 ≡ get_or y (1 + n + (a * n + b)) 0
      orders a l b m =
          let w : a * n + b < n * n = omega (arith, row_le a n n l) in
          bit_same _ _ (f.orders _ w) (g.orders _ w) (k a l b m)

-- ---- the parts of two contents

-- a lattice part of the right form that is not the panel's one byte is explicit
explicit_is : (x : List ℕ) (P : LatticePart) → lattice_form x ≡ true → P ≡ lattice_of x → is_panel x ≡ false → ExplicitForm (get_or x 0 0) x × (P ≡ explicit_part x)
unfolding lattice_form lattice_of
explicit_is x P f e p = (explicit_out _ x (rw p at f), rw p at e)

module _ {b d : List ℕ} (c e : Content) (u : CaseOf b c) (v : CaseOf d e) (s : SameCase c e) where
  lattice_same : c.lattice_bytes ≡ e.lattice_bytes
  lattice_same = go (is_panel e.lattice_bytes) s.form refl
    where
      go : (t : Bool) → is_panel c.lattice_bytes ≡ t → is_panel e.lattice_bytes ≡ t → c.lattice_bytes ≡ e.lattice_bytes
      go true p q = panel_is _ p ∙ sym (panel_is _ q)
      go false p q =
          let f = explicit_is _ _ u.lattice_form_lem u.lattice_is p in
          let g = explicit_is _ _ v.lattice_form_lem v.lattice_is q in
          let n : get_or c.lattice_bytes 0 0 ≡ get_or e.lattice_bytes 0 0 = rw (f.1, g.1) at s.size in
          explicit_same _ _ _ f.0 (rw (← n) at g.0) n (rw (f.1, g.1) at s.complement) (rw (f.1, g.1, ← n) at s.order)

  formulas_same : c.formula_bytes ≡ e.formula_bytes
  formulas_same =
      ext_get_or [] _ _ (sym u.as_many ∙ ap length s.formulas ∙ v.as_many)
      (λ i l.
      u.formula_bytes i (omega (arith, u.as_many))
      ∙ ap (λ (φs : List Formula). bytes_of (get_or φs i bottom)) s.formulas
      ∙ sym (v.formula_bytes i (omega (arith, u.as_many, ap length s.formulas))))

-- ---- accepted cases that say the same

model_itself : (M : Model ℕ) → SameModel M M
model_itself M = record { states = refl; propositions = refl; initial = λ q l. refl; label = λ q l p m. refl; transition = λ q l r m. refl }

-- a content says what it says
case_itself : (c : Content) → SameCase c c
case_itself c = record { form = refl; size = refl; complement = λ a l. refl; order = λ a l b m. refl; first = model_itself _; second = model_itself _; formulas = refl }

module _ (b d : List ℕ) (c e : Content) (p : case_reading b ≡ content c) (q : case_reading d ≡ content e) where
  -- Two accepted cases that say the same have the same parts, byte for byte.
  pub same_parts : SameCase c e → content_parts c ≡ content_parts e
  same_parts s =
      let u = (content_exactly b c).0 p in
      let v = (content_exactly d e).0 q in
      cc (lattice_same c e u v s, model_same _ _ u.shape1 v.shape1 s.first, model_same _ _ u.shape2 v.shape2 s.second, formulas_same c e u v s)

  pub same_content : SameCase c e → c ≡ e
  same_content s = content_unique b d c e p q (same_parts s)

  -- Two accepted cases have the same content exactly when they say the same.
  pub same_content_exactly : SameCase c e ↔ (c ≡ e)
  same_content_exactly = (same_content, λ r. rw r (case_itself e))
