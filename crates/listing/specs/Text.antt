-- The text that the program report prints for a case, in document 01's words. Rests on refusal's Number, casefile's Reading and desk's Case.
--   decimal, by decimal_within: a number's digits; rounds_label, row_label, score_label, formula_label, refused_label, blank, colon, line_end: the labels
--   item, last_item, heading: a label with a number; each: f 0, f 1, .. one after the other
--   refused_text, table_text, formulas_text, accepted_text: the parts of the text; entries_text, row_text, rows_text: a table's rows
--   formula_text, formula_line: the line of a formula; settled_round: T
--   listing_text, by text_of: the text of a case
--   Lists: what the code says that it wrote
use Rattle.std.specs.Prelude.{ℕ, zero, suc, ◌+◌, ◌/◌, ◌%◌, ◌≤◌, ◌≡◌, cond, List, [], ◌∷◌, ◌++◌, ltb, length, take}
use Rattle.theory.specs.Lattice.{Ops}
use Rattle.theory.specs.Model.{Model}
use Rattle.theory.specs.Value.{whole_value}
use Rattle.theory.specs.Simulation.{score}
use Rattle.theory.specs.Test.{first_below}
use Rattle.theory.specs.Lists.{written}
use Rattle.refusal.specs.declared.Refusal.{Refusal}
use Rattle.refusal.specs.Number.{number_of, part_of}
use Rattle.casefile.specs.Reading.{Content, CaseReading, refused, content, case_reading}
use Rattle.rounds.specs.Table.{simulation_test}
use Rattle.desk.specs.Case.{ops, model1, model2, model_in, formula_in, operator, round_in, limit}

-- ---- numbers and labels, as bytes

-- the decimal digits of n, where k is above n: the digit 0 is the byte 48
unfoldable pub decimal_within : ℕ → ℕ → List ℕ
decimal_within zero n = []
decimal_within (suc k) n = cond (ltb n 10) ((48 + n) ∷ []) (decimal_within k (n / 10) ++ ((48 + n % 10) ∷ []))

-- the decimal digits of n
unfoldable pub decimal : ℕ → List ℕ
unfolding decimal_within
decimal n = decimal_within (suc n) n

-- 'rounds ', 'row ', 'score ', 'formula ' and 'refused ', each with the blank after it
abbrev pub rounds_label : List ℕ
rounds_label = 114 ∷ 111 ∷ 117 ∷ 110 ∷ 100 ∷ 115 ∷ 32 ∷ []

abbrev pub row_label : List ℕ
row_label = 114 ∷ 111 ∷ 119 ∷ 32 ∷ []

abbrev pub score_label : List ℕ
score_label = 115 ∷ 99 ∷ 111 ∷ 114 ∷ 101 ∷ 32 ∷ []

abbrev pub formula_label : List ℕ
formula_label = 102 ∷ 111 ∷ 114 ∷ 109 ∷ 117 ∷ 108 ∷ 97 ∷ 32 ∷ []

abbrev pub refused_label : List ℕ
refused_label = 114 ∷ 101 ∷ 102 ∷ 117 ∷ 115 ∷ 101 ∷ 100 ∷ 32 ∷ []

-- a blank, a colon, and the line feed that ends a line
abbrev pub blank : List ℕ
blank = 32 ∷ []

abbrev pub colon : List ℕ
colon = 58 ∷ []

abbrev pub line_end : List ℕ
line_end = 10 ∷ []

-- a label and a number after it; these at a line's end; these with a colon
abbrev pub item : List ℕ → ℕ → List ℕ
item w n = w ++ decimal n

abbrev pub last_item : List ℕ → ℕ → List ℕ
last_item w n = item w n ++ line_end

abbrev pub heading : List ℕ → ℕ → List ℕ
heading w n = item w n ++ colon

-- f 0, f 1, .., f (n - 1), one after the other
unfoldable pub each : ℕ → (ℕ → List ℕ) → List ℕ
each zero f = []
each (suc n) f = each n f ++ f n

-- ---- a refused case

-- 'A refused case prints one line: refused, number, part'
unfoldable pub refused_text : Refusal → List ℕ
refused_text f = item refused_label (number_of f) ++ last_item blank (part_of f)

-- ---- an accepted case

-- n entries, a blank before each
abbrev pub entries_text : (ℕ → ℕ) → ℕ → List ℕ
entries_text g n = each n (λ q. item blank (g q))

-- 'a line for each q1 with its entries, a blank between'
unfoldable pub row_text : (ℕ → ℕ → ℕ) → ℕ → ℕ → List ℕ
row_text S n₂ q₁ = heading row_label q₁ ++ entries_text (S q₁) n₂ ++ line_end

abbrev pub rows_text : (ℕ → ℕ → ℕ) → ℕ → ℕ → List ℕ
rows_text S n₁ n₂ = each n₁ (row_text S n₂)

-- the number of the last round, the table S, and its score
unfoldable pub table_text : Ops ℕ → Model ℕ → Model ℕ → ℕ → (ℕ → ℕ → ℕ) → List ℕ
table_text O M₁ M₂ T S = last_item rounds_label T ++ rows_text S M₁.states M₂.states ++ last_item score_label (score O M₁ M₂ S)

-- formula f, with its values v₁ and v₂ on models 1 and 2
unfoldable pub formula_text : ℕ → ℕ → ℕ → List ℕ
formula_text f v₁ v₂ = heading formula_label f ++ item blank v₁ ++ last_item blank v₂

-- 'a line for each formula with its number and whole value on models 1 and 2'
unfoldable pub formula_line : Content → ℕ → List ℕ
unfolding formula_text
formula_line c f = formula_text f (whole_value (ops c) (model_in c 1) (formula_in c f)) (whole_value (ops c) (model_in c 2) (formula_in c f))

unfoldable pub formulas_text : Content → List ℕ
unfolding formula_line
formulas_text c = each (length c.formulas) (formula_line c)

-- '(T; a line for each q1 with its entries, a blank between; score; a line for each formula ..)', the entries being those of round T
unfoldable pub accepted_text : Content → ℕ → List ℕ
unfolding table_text formulas_text
accepted_text c T = table_text (ops c) (model1 c) (model2 c) T (round_in c T) ++ formulas_text c

-- T, found by trying the rounds in order: one more than the least r for which F of round r, which is round r + 1, equals round r
unfoldable pub settled_round : Content → ℕ
settled_round c = suc (first_below (suc (limit c)) (λ r. simulation_test (model1 c) (model2 c) (operator c) (round_in c r)))

-- ---- the text for any bytes

abbrev pub text_of : CaseReading → List ℕ
text_of (refused f) = refused_text f
text_of (content c) = accepted_text c (settled_round c)

abbrev pub listing_text : List ℕ → List ℕ
listing_text b = text_of (case_reading b)

-- the buffer `before` became `after`: the text for the bytes b stands at its start, r is how many bytes it has, and every byte after it is as
-- it was. The last two follow, and are stated so that a caller can take the first r bytes.
pub record Lists (b before after : List ℕ) (r : ℕ) : Type 0 where
  pub count : r ≡ length (listing_text b)
  pub bytes : after ≡ written 0 (listing_text b) before
  pub within : r ≤ length after
  pub first : r ≡ length (take r after)
