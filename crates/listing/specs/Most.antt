-- The greatest length of a text. Rests on Text, Decimal, Writing, casefile's Content and Placed, theory's Rounds and Sharp.
use Rattle.std.specs.Prelude.{ℕ, ◌≤◌, ◌<◌, ◌≡◌, List, ◌++◌, length}
use native.Mathlib.Omega.{arith}
use Rattle.std.proofs.Common.{ltb-true}
use Rattle.std.proofs.Math.ListN.{length-append}
use Rattle.theory.specs.Value.{whole_value}
use Rattle.theory.specs.Simulation.{score}
use Rattle.theory.specs.Folds.{big_meet-element}
use Rattle.theory.proofs.Rounds.{round_element}
use Rattle.theory.proofs.Sharp.{T_sharp}
use Rattle.casefile.specs.Reading.{Content, content, case_reading}
use Rattle.casefile.specs.Content.{ContentSound}
use Rattle.casefile.proofs.Content.{content_sound, parts_are}
use Rattle.casefile.specs.Placed.{accepted_placed}
use Rattle.desk.specs.Case.{ops, model1, model2, model_in, formula_in, N1, N2, round_in, IsT}
use Rattle.listing.specs.Text.{blank, colon, line_end, row_label, rounds_label, score_label, formula_label, item, last_item, heading, entries_text, row_text, rows_text, table_text, formula_text, formula_line, formulas_text, accepted_text}
use Rattle.listing.specs.Decimal.{decimal_one, decimal_two, decimal_four}
use Rattle.listing.specs.Writing.{each-length}

-- a row's line: a row number and entries of at most two digits each, and at most 64 entries
row_most : (S : ℕ → ℕ → ℕ) (n₂ q₁ : ℕ) → n₂ ≤ 64 → q₁ < 64 → ((q₂ : ℕ) → q₂ < n₂ → S q₁ q₂ < 100) → length (row_text S n₂ q₁) ≤ 200
unfolding row_text
row_most S n₂ q₁ a b h =
    omega (
      arith,
      length-append (heading row_label q₁ ++ entries_text (S q₁) n₂) line_end,
      length-append (heading row_label q₁) (entries_text (S q₁) n₂),
      length-append (item row_label q₁) colon,
      decimal_two q₁ (omega arith),
      each-length n₂ 3 (λ q. item blank (S q₁ q)) (λ q l. omega (arith, decimal_two (S q₁ q) (h q l))),
    )

formula_most : (f v₁ v₂ : ℕ) → f < 10 → v₁ < 100 → v₂ < 100 → length (formula_text f v₁ v₂) ≤ 17
unfolding formula_text
formula_most f v₁ v₂ a b d =
    omega (
      arith,
      length-append (heading formula_label f ++ item blank v₁) (last_item blank v₂),
      length-append (heading formula_label f) (item blank v₁),
      length-append (item formula_label f) colon,
      length-append (item blank v₂) line_end,
      decimal_one f a,
      decimal_two v₁ b,
      decimal_two v₂ d,
    )

module _ (b : List ℕ) (c : Content) (e : case_reading b ≡ content c) where
  abbrev sound : ContentSound c
  sound = content_sound b c e

  element-few : (x : ℕ) → x < c.lattice.size → x < 100
  element-few x l = omega (arith, sound.elements_most)

  entry_few : (T q₁ q₂ : ℕ) → round_in c T q₁ q₂ < 100
  entry_few T q₁ q₂ = element-few _ (ltb-true _ _ (round_element sound.laws (model1 c) (model2 c) T q₁ q₂))

  score_few : (S : ℕ → ℕ → ℕ) → score (ops c) (model1 c) (model2 c) S < 100
  unfolding score
  score_few S = element-few _ (ltb-true _ _ (big_meet-element sound.laws (N1 c) _))

  whole_few : (f m : ℕ) → whole_value (ops c) (model_in c m) (formula_in c f) < 100
  unfolding whole_value
  whole_few f m = element-few _ (ltb-true _ _ (big_meet-element sound.laws (model_in c m).states _))

  -- the settled table's lines
  pub table_most : (T : ℕ) → IsT c T → length (table_text (ops c) (model1 c) (model2 c) T (round_in c T)) ≤ 12821
  unfolding table_text
  table_most T t =
      let S = round_in c T in
      omega (
        arith,
        length-append (last_item rounds_label T ++ rows_text S (N1 c) (N2 c)) (last_item score_label (score (ops c) (model1 c) (model2 c) S)),
        length-append (last_item rounds_label T) (rows_text S (N1 c) (N2 c)),
        length-append (item rounds_label T) line_end,
        length-append (item score_label (score (ops c) (model1 c) (model2 c) S)) line_end,
        decimal_four T (omega (arith, T_sharp sound.laws (model1 c) (model2 c) T t, sound.entries_most)),
        decimal_two (score (ops c) (model1 c) (model2 c) S) (score_few S),
        each-length (N1 c) 200 (row_text S (N2 c)) (λ q l. row_most S (N2 c) q sound.shape2.states_most (omega (arith, l, sound.shape1.states_most)) (λ r m. entry_few T q r)),
        sound.shape1.states_most,
      )

  formulas_few : length c.formulas ≤ 8
  formulas_few = omega (arith, (accepted_placed b c e).directory.count_most, (parts_are b c e).count)

  formulas_most : length (formulas_text c) ≤ 136
  unfolding formulas_text formula_line
  formulas_most = omega (arith, each-length (length c.formulas) 17 (formula_line c) (λ f l. formula_most f _ _ (omega (arith, formulas_few)) (whole_few f 1) (whole_few f 2)), formulas_few)

  -- so every text fits in a buffer of 16,384 bytes
  pub text_most : (T : ℕ) → IsT c T → length (accepted_text c T) ≤ 12957
  unfolding accepted_text
  text_most T t = omega (arith, length-append (table_text (ops c) (model1 c) (model2 c) T (round_in c T)) (formulas_text c), table_most T t, formulas_most)
