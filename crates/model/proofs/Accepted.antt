-- What holds of a model part that is accepted, and which are. Rests on Reading, Places, theory's Part, Model and Test.
-- The definitions are in specs/Accepted.
--   model_exactly: a part is accepted exactly when it has its shape and every value is an element
--   accepted_shape, accepted_valued, shape_of, sizes_pass: what holds of an accepted part
--   answers_accepted, answers_refused: what the code answers
use Rattle.std.specs.Prelude.{ℕ, zero, suc, ◌+◌, ◌*◌, ◌-◌, ◌/◌, ◌%◌, ◌≤◌, ◌<◌, ◌≡◌, refl, Bool, true, false, ◌⊎◌, ◌↔◌, List, leb, eqb, length, Some, None}
use Rattle.std.proofs.Common.{sym, inl, inr, mul-zero, mod-lt, div-add-mod', div-lt_iff_lt-mul, zero-lt-suc, arith, ltb-true, ltb-false, leb-true, eqb-true, lt-ltb, le-leb, eq-eqb}
use Rattle.std.proofs.Math.Logic.{⊎_elim}
use Rattle.std.proofs.Math.Dec.{ltb}
use Rattle.std.proofs.Math.ListN.{get_or}
use Rattle.theory.specs.Model.{Valued}
use Rattle.theory.specs.Part.{LatticePart, ops_of, model_of, model_length, ModelShape}
use Rattle.theory.specs.TestLaws.{and_l, and_r, and_in, all_four, all_at, all_in, not_passed}
use Rattle.model.specs.Places.{row_le}
use Rattle.model.specs.Reading.{elements_only, sizes_test, model_test, size_of, model_answer}
use Rattle.model.specs.Accepted.{Cell}

-- ---- an accepted part has its shape

pub shape_of : (b : List ℕ) → sizes_test b ≡ true → ModelShape b
shape_of b t =
    let f = all_four (ltb 0 (get_or b 0 0)) (leb (get_or b 0 0) 64) (leb (get_or b 1 0) 16) (eqb (length b) (model_length (get_or b 0 0) (get_or b 1 0))) t in
    record {
      some = ltb-true _ _ f.first;
      states_most = leb-true _ _ f.second;
      propositions_most = leb-true _ _ f.third;
      exact = eqb-true _ _ f.fourth;
    }

-- each byte after the two sizes of an accepted part is an element
value_element : (n : ℕ) (b : List ℕ) → elements_only n b ≡ true → (at : ℕ) → 2 ≤ at → at < length b → ltb (get_or b at 0) n ≡ true
unfolding elements_only
value_element n b t at l m =
    let e : 2 + (at - 2) ≡ at = omega arith in
    rw e at (all_at (length b - 2) (λ j. ltb (get_or b (2 + j) 0) n) t (at - 2) (omega arith))

-- the two parts of the test
pub sizes_pass : (n : ℕ) (b : List ℕ) → model_test n b ≡ true → sizes_test b ≡ true
unfolding model_test
sizes_pass n b t = and_l (sizes_test b) (elements_only n b) t

values_pass : (n : ℕ) (b : List ℕ) → model_test n b ≡ true → elements_only n b ≡ true
unfolding model_test
values_pass n b t = and_r (sizes_test b) (elements_only n b) t

pub accepted_shape : (n : ℕ) (b : List ℕ) → model_test n b ≡ true → ModelShape b
accepted_shape n b t = shape_of b (sizes_pass n b t)

test_in : (n : ℕ) (b : List ℕ) → ModelShape b → elements_only n b ≡ true → model_test n b ≡ true
unfolding model_test
test_in n b s v =
    let p : sizes_test b ≡ true = simp (lt-ltb _ _ s.some, le-leb _ _ s.states_most, le-leb _ _ s.propositions_most, eq-eqb _ _ s.exact) in
    and_in (sizes_test b) (elements_only n b) p v

-- an accepted part is a model whose values are elements
pub accepted_valued : (P : LatticePart) (b : List ℕ) → model_test P.size b ≡ true → Valued (ops_of P) (model_of b)
accepted_valued P b t =
    let s = accepted_shape P.size b t in
    let v = value_element P.size b (values_pass P.size b t) in
    record {
      initial_element = λ q l. v (2 + q) (omega arith) (omega (arith, s.exact));
      label_element = λ q l p m. v _ (omega arith) (omega (arith, s.exact, row_le q (get_or b 0 0) (get_or b 1 0) l));
      transition_element = λ q l r m. v _ (omega arith) (omega (arith, s.exact, row_le q (get_or b 0 0) (get_or b 0 0) l));
    }

-- ---- a part of that shape whose values are elements is accepted

at_or_before : (a i : ℕ) → (a ≤ i) ⊎ (i < a)
at_or_before a i = go (ltb i a) refl
  where
    go : (t : Bool) → ltb i a ≡ t → (a ≤ i) ⊎ (i < a)
    go true e = inr (ltb-true i a e)
    go false e = inl (ltb-false i a e)

pub cell : (j n w : ℕ) → j < n * w → Cell j n w
cell j n zero l = absurd (omega (arith, mul-zero n))
cell j n (suc w) l =
    record {
      row = j / suc w;
      column = j % suc w;
      row_lt = (div-lt_iff_lt-mul (zero-lt-suc w)).1 l;
      column_lt = mod-lt j (zero-lt-suc w);
      is = div-add-mod' j (suc w);
    }

module _ (P : LatticePart) (b : List ℕ) (s : ModelShape b) (v : Valued (ops_of P) (model_of b)) where
  initial_at : (i : ℕ) → i < get_or b 0 0 → ltb (get_or b (2 + i) 0) P.size ≡ true
  initial_at i l = v.initial_element i l

  label_at : (i : ℕ) → get_or b 0 0 ≤ i → i < get_or b 0 0 + get_or b 0 0 * get_or b 1 0 → ltb (get_or b (2 + i) 0) P.size ≡ true
  label_at i l m =
      let c = cell (i - get_or b 0 0) (get_or b 0 0) (get_or b 1 0) (omega arith) in
      let e : 2 + get_or b 0 0 + (c.row * get_or b 1 0 + c.column) ≡ 2 + i = omega (arith, c.is) in
      rw e at (v.label_element c.row c.row_lt c.column c.column_lt)

  transition_at : (i : ℕ) → get_or b 0 0 + get_or b 0 0 * get_or b 1 0 ≤ i → i < length b - 2 → ltb (get_or b (2 + i) 0) P.size ≡ true
  transition_at i l m =
      let c = cell (i - get_or b 0 0 - get_or b 0 0 * get_or b 1 0) (get_or b 0 0) (get_or b 0 0) (omega (arith, s.exact)) in
      let e : 2 + get_or b 0 0 + get_or b 0 0 * get_or b 1 0 + (c.row * get_or b 0 0 + c.column) ≡ 2 + i = omega (arith, c.is) in
      rw e at (v.transition_element c.row c.row_lt c.column c.column_lt)

  all_elements : elements_only P.size b ≡ true
  unfolding elements_only
  all_elements =
      all_in (length b - 2) (λ i. ltb (get_or b (2 + i) 0) P.size)
      (λ i l.
      ⊎_elim (λ (m : get_or b 0 0 + get_or b 0 0 * get_or b 1 0 ≤ i). transition_at i m l)
      (λ (m : i < get_or b 0 0 + get_or b 0 0 * get_or b 1 0). ⊎_elim (λ (k : get_or b 0 0 ≤ i). label_at i k m) (initial_at i) (at_or_before (get_or b 0 0) i))
      (at_or_before (get_or b 0 0 + get_or b 0 0 * get_or b 1 0) i))

-- A part is accepted exactly when it has its sizes and its length, and every value is an element.
pub model_exactly : (P : LatticePart) (b : List ℕ) → (model_test P.size b ≡ true) ↔ (ModelShape b × Valued (ops_of P) (model_of b))
model_exactly P b = (λ t. (accepted_shape P.size b t, accepted_valued P b t), λ h. test_in P.size b h.0 (all_elements P b h.0 h.1))

-- ---- what the code answers

pub answers_accepted : (n : ℕ) (b : List ℕ) → ModelShape b → elements_only n b ≡ true → Some (size_of b) ≡ model_answer n b
unfolding model_answer
answers_accepted n b s v = sym (rw (test_in n b s v))

pub answers_refused : (n : ℕ) (b : List ℕ) → (ModelShape b → elements_only n b ≡ true → ⊥) → None ≡ model_answer n b
unfolding model_answer
answers_refused n b h = sym (rw (not_passed (model_test n b) (λ t. h (accepted_shape n b t) (values_pass n b t))))
