-- A row of F from the codes of its entries. Rests on Table, Row and Codes, and entries' Table and Codes.
--   row_in: the row that is written, and whether it differs
--   row_within, row_within_lem, row_compared: whether a row of the table is at or below it, by codes; post_fixed_in_lem: whether all are
use Rattle.std.specs.Prelude.{ℕ, ◌+◌, ◌≤◌, ◌<◌, ◌≡◌, Bool, eqb, length, take, drop}
use Rattle.std.specs.List.{list_all, zip}
use Rattle.std.proofs.Common.{sym, ◌∙◌, le_refl, arith, length-drop, length-take-le}
use Rattle.std.proofs.Math.Path.{ap}
use Rattle.std.proofs.Math.Bool.{not}
use mathlib.Core.List.{List}
use Rattle.std.proofs.Math.ListN.{get_or}
use Rattle.theory.specs.Lists.{Filled, tab, written}
use Rattle.theory.specs.Loop.{tab_at, tab-length, filled_all}
use Rattle.theory.specs.Test.{all_below}
use Rattle.theory.specs.TestLaws.{all_cong}
use Rattle.elements.specs.declared.Lattice.{Lattice}
use Rattle.elements.specs.Words.{code_in, decode_in, within, Coded}
use Rattle.entries.specs.Table.{entry_in}
use Rattle.entries.specs.Codes.{codes_of_table, entry_code, entry_of, entry-decoded}
use Rattle.entries.specs.Words.{slice_word}
use Rattle.rounds.specs.Compared.{all_zip}
use Rattle.rounds.specs.Table.{row_same, row_at_most, post_fixed_test, RowIn, post_fixed_in}
use Rattle.rounds.specs.Row.{RowAt, RowSoFar, RowOut, row_written_lem}
use Rattle.rounds.specs.Codes.{by_row, JoinsOf, joins-inner}

tab_cong : (f g : ℕ → ℕ) (n : ℕ) → ((i : ℕ) → i < n → f i ≡ g i) → tab f n 0 ≡ tab g n 0
tab_cong f g n h = sym (filled_all {f = f} (record { at = λ i l. tab_at g n i l ∙ sym (h i l) }) (tab-length g n 0) (le_refl n))

module _ {w : List ℕ} {l : Lattice} (c : Coded w l) {m₁ m₂ s joins codes : List ℕ} (j : JoinsOf w m₁ m₂ s joins)
    (q₁ : ℕ) {n₂ at : ℕ} (a : RowAt m₁ m₂ q₁ n₂ at) (e : n₂ ≡ get_or m₂ 0 0) (f : Filled (entry_code w (code_in w l.top.0) m₁ m₂ (by_row joins) q₁) (get_or m₂ 0 0) codes) where
  -- a code is turned back into F's entry
  decoded : (q : ℕ) → q < n₂ → decode_in w (get_or codes q 0) ≡ entry_in w l m₁ m₂ s q₁ q
  decoded q k = ap (decode_in w) (f.at q (omega (arith, e))) ∙ entry-decoded c m₁ m₂ s q₁ q (joins-inner c j q (omega (arith, e)))

  same_tests : all_below n₂ (λ q. eqb (get_or s (at + q) 0) (decode_in w (get_or codes q 0))) ≡ all_below n₂ (λ q. eqb (get_or s (at + q) 0) (entry_in w l m₁ m₂ s q₁ q))
  same_tests = all_cong n₂ _ _ (λ q k. ap (eqb (get_or s (at + q) 0)) (decoded q k))

  pub row_in : {before out : List ℕ} {changed : Bool} → RowOut w codes s at n₂ before out changed → RowIn w l m₁ m₂ s q₁ before out changed
  unfolding row_same
  row_in {before} {out} {changed} u =
      let v : RowSoFar changed at (entry_in w l m₁ m₂ s q₁) (λ q. get_or s (at + q) 0) before n₂ out =
      record { out_is = u.out_is ∙ ap (λ (x : List ℕ). written at x before) (tab_cong _ _ n₂ decoded); changed_is = u.changed_is ∙ ap not same_tests } in
      rw a.here at (row_written_lem a e v)

-- ---- the test whether a table is at or below F of it

-- row q₁ of s, by its codes, is within the codes of F's row, which are worked from the inner joins
abbrev pub row_within : List ℕ → ℕ → List ℕ → List ℕ → List ℕ → List ℕ → ℕ → Bool
row_within w top m₁ m₂ s joins q₁ = all_below (get_or m₂ 0 0) (λ q₂. within (codes_of_table w m₂ s q₁ q₂) (entry_code w top m₁ m₂ (by_row joins) q₁ q₂))

-- what is found of row q₁ of s, which begins at its place `at`, from the codes of F's row
pub row_within_lem : (w : List ℕ) (top : ℕ) (m₁ m₂ s joins codes : List ℕ) {q₁ n₂ at : ℕ} {found : Bool} → RowAt m₁ m₂ q₁ n₂ at → n₂ ≡ get_or m₂ 0 0
    → Filled (entry_code w top m₁ m₂ (by_row joins) q₁) (get_or m₂ 0 0) codes → found ≡ all_below n₂ (λ q. within (code_in w (get_or s (at + q) 0)) (get_or codes q 0))
    → found ≡ row_within w top m₁ m₂ s joins q₁
row_within_lem w top m₁ m₂ s joins codes {n₂ = n₂} {at = at} a e f g =
    g ∙ all_cong n₂ _ _ (λ q k. ap (within (code_in w (get_or s (at + q) 0))) (f.at q (omega (arith, e)))) ∙ rw (a.here, e)

-- the comparison of a row that is a part of s
pub row_compared : (w : List ℕ) (s codes : List ℕ) (at n : ℕ) {found : Bool} → at + n ≤ length s → n ≤ length codes → found ≡ list_all (λ p. within (code_in w p.0) p.1) (zip (take n (drop at s)) codes)
    → found ≡ all_below n (λ q. within (code_in w (get_or s (at + q) 0)) (get_or codes q 0))
row_compared w s codes at n l m e =
    let k : length (take n (drop at s)) ≡ n = length-take-le n (drop at s) (omega (arith, length-drop at s)) in
    e ∙ all_zip (λ p. within (code_in w p.0) p.1) (take n (drop at s)) codes (omega arith)
    ∙ ap (λ (j : ℕ). all_below j (λ i. within (code_in w (get_or (take n (drop at s)) i 0)) (get_or codes i 0))) k
    ∙ all_cong n _ _ (λ i h. ap (λ (x : ℕ). within (code_in w x) (get_or codes i 0)) (slice_word s at n i h))

-- the code of an entry of F is that of its element, so that the test of all rows by codes is `post_fixed_in`
pub post_fixed_in_lem : {w : List ℕ} {l : Lattice} (c : Coded w l) {m₁ m₂ s joins : List ℕ} → JoinsOf w m₁ m₂ s joins
    → all_below (get_or m₁ 0 0) (row_within w (code_in w l.top.0) m₁ m₂ s joins) ≡ post_fixed_in w l m₁ m₂ s
unfolding post_fixed_test row_at_most
post_fixed_in_lem {w} c {m₁} {m₂} {s} j =
    all_cong _ _ _ (λ q₁ _. all_cong _ _ _ (λ q₂ m. ap (within (codes_of_table w m₂ s q₁ q₂)) (entry_of c m₁ m₂ s q₁ q₂ (joins-inner c j q₂ m)).eq))
