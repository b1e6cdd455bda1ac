-- The listing of a case is what a desk answers that was last opened with it and is settled. Rests on Text, and for the proof on Settled,
-- Entries and desk's ViewLaws and Demand3Holds.
--   Answers, text_of_answers: what a settled desk answers, and the text of it
--   answers_are: it has such answers; listing_answered: whatever they are, the listing is their text
use Rattle.std.specs.Prelude.{ℕ, ◌<◌, ◌≡◌, refl, true, length}
use Rattle.std.proofs.Math.Path.{sym, ap, ap₂}
use Rattle.std.proofs.Common.{◌∙◌, inl, inr}
use mathlib.Core.List.{List, ◌++◌}
use Rattle.theory.specs.Value.{whole_value}
use Rattle.theory.specs.Simulation.{score}
use Rattle.formula.specs.declared.FormulaFacts.{FormulaFacts}
use Rattle.formula.specs.Answer.{facts_of}
use Rattle.casefile.specs.Reading.{Content}
use Rattle.entries.specs.Table.{table_of}
use Rattle.desk.specs.Desk.{Desk, Question, Call, Reply}
use Rattle.desk.specs.Case.{ops, model1, model2, N1, N2, model_in, formula_in, round_in, table_bytes, IsT}
use Rattle.desk.specs.Perform.{asked, show_answer}
use Rattle.desk.specs.Run.{run, LastOpening, answers_since, round_after}
use Rattle.desk.proofs.RefusedLaws.{open_accepted}
use Rattle.desk.proofs.ViewLaws.{bytes_table}
use Rattle.desk.proofs.Listed.{opening_T}
use Rattle.desk.specs.Demand3.{Claim}
use Rattle.desk.proofs.Demand3Holds.{same_shown, listed, ranges, whole_next, score_next}
use Rattle.listing.specs.Text.{rounds_label, score_label, last_item, each, rows_text, table_text, formula_text, formula_line, formulas_text, accepted_text, listing_text}
use Rattle.listing.specs.Writing.{each_cong}
use Rattle.listing.specs.Entries.{rows_cong}
use Rattle.listing.specs.Settled.{listing_is}

-- the answers of a desk that is settled: its round, the table that it shows, its score, and the formulas' values on models 1 and 2 with
-- their facts, which the text leaves out: 'The listing of report is unaltered' (request 102)
pub record Answers (c : Content) (d : Desk) (T : ℕ) (table : List ℕ) (e : ℕ) (v₁ v₂ : ℕ → ℕ) : Type 0 where
  pub round : d.standing.round ≡ T
  pub show : show_answer d ≡ Reply.Shown table
  pub score : asked Question.Score d ≡ Reply.Element e
  pub whole1 : (f : ℕ) → f < length c.formulas → asked (Question.Whole f 1) d ≡ Reply.FormulaValue (v₁ f) (facts_of (formula_in c f))
  pub whole2 : (f : ℕ) → f < length c.formulas → asked (Question.Whole f 2) d ≡ Reply.FormulaValue (v₂ f) (facts_of (formula_in c f))

-- the text of such answers
abbrev pub text_of_answers : Content → ℕ → List ℕ → ℕ → (ℕ → ℕ) → (ℕ → ℕ) → List ℕ
text_of_answers c T table e v₁ v₂ =
    last_item rounds_label T ++ rows_text (table_of table (N2 c)) (N1 c) (N2 c) ++ last_item score_label e ++ each (length c.formulas) (λ f. formula_text f (v₁ f) (v₂ f))

-- ---- the proof

same_element : (x : Reply) (a b : ℕ) → x ≡ Reply.Element a → x ≡ Reply.Element b → a ≡ b
same_element x a b p q = cc

same_value : (x : Reply) (a b : ℕ) (i j : FormulaFacts) → x ≡ Reply.FormulaValue a i → x ≡ Reply.FormulaValue b j → a ≡ b
same_value x a b i j p q = cc

module _ (c : Content) (T : ℕ) (answers : List Reply) (d : Desk) (w : Claim c T answers d) (settled : d.standing.settled ≡ true) where
  at_T : round_after c T (length answers) ≡ T
  at_T = w.settled_exactly.0 settled

  round_T : d.standing.round ≡ T
  round_T = w.round_is ∙ at_T

  show_T : show_answer d ≡ Reply.Shown (table_bytes c (round_in c T))
  show_T = rw at_T at w.show_next

  score_T : asked Question.Score d ≡ Reply.Element (score (ops c) (model1 c) (model2 c) (round_in c T))
  score_T = rw at_T at (score_next w)

  whole_1 : (f : ℕ) → f < length c.formulas → asked (Question.Whole f 1) d ≡ Reply.FormulaValue (whole_value (ops c) (model_in c 1) (formula_in c f)) (facts_of (formula_in c f))
  whole_1 f l = whole_next w f 1 ((ranges w (Question.Whole f 1)).1 (l, (inl refl, tt)))

  whole_2 : (f : ℕ) → f < length c.formulas → asked (Question.Whole f 2) d ≡ Reply.FormulaValue (whole_value (ops c) (model_in c 2) (formula_in c f)) (facts_of (formula_in c f))
  whole_2 f l = whole_next w f 2 ((ranges w (Question.Whole f 2)).1 (l, (inr refl, tt)))

  answers_T : Answers c d T (table_bytes c (round_in c T)) (score (ops c) (model1 c) (model2 c) (round_in c T)) (λ f. whole_value (ops c) (model_in c 1) (formula_in c f)) (λ f. whole_value (ops c) (model_in c 2) (formula_in c f))
  answers_T = record { round = round_T; show = show_T; score = score_T; whole1 = whole_1; whole2 = whole_2 }

  claimed_text : (U : ℕ) (table : List ℕ) (e : ℕ) (v₁ v₂ : ℕ → ℕ) → Answers c d U table e v₁ v₂ → accepted_text c T ≡ text_of_answers c U table e v₁ v₂
  unfolding accepted_text formulas_text formula_line table_text
  claimed_text U table e v₁ v₂ a =
      let S = round_in c T in
      let pr : T ≡ U = sym round_T ∙ a.round in
      let pt : table_bytes c S ≡ table = same_shown _ _ _ show_T a.show in
      let pe : score (ops c) (model1 c) (model2 c) S ≡ e = same_element _ _ _ score_T a.score in
      ap₂ ◌++◌
      (ap₂ (λ (x : List ℕ) (y : List ℕ). x ++ y) (ap₂ (λ (x : ℕ) (y : List ℕ). last_item rounds_label x ++ y) pr (rows_cong (ops c) (model1 c) (model2 c) S (table_of table (N2 c)) (λ q₁ l q₂ m. sym (bytes_table c S q₁ l q₂ m) ∙ ap (λ (x : List ℕ). table_of x (N2 c) q₁ q₂) pt))) (ap (last_item score_label) pe))
      (each_cong (length c.formulas) _ _ (λ f l. ap₂ (formula_text f) (same_value _ _ _ _ _ (whole_1 f l) (a.whole1 f l)) (same_value _ _ _ _ _ (whole_2 f l) (a.whole2 f l))))

-- for every list of calls from any desk with an accepted opening in it, after which the desk is settled: it has such answers, with T the first
-- round that equals the one before
pub answers_are : (ks : List Call) (d : Desk) (l : LastOpening ks d) → (run ks d).standing.settled ≡ true → (T : ℕ) → IsT l.holds T
    → let c = l.holds in Answers c (run ks d) T (table_bytes c (round_in c T)) (score (ops c) (model1 c) (model2 c) (round_in c T)) (λ f. whole_value (ops c) (model_in c 1) (formula_in c f)) (λ f. whole_value (ops c) (model_in c 2) (formula_in c f))
answers_are ks d l settled T t = answers_T l.holds T (answers_since l) (run ks d) (listed ks d l T t) settled

-- and whatever it answers, the listing of the case says it
pub listing_answered : (ks : List Call) (d : Desk) (l : LastOpening ks d) → (run ks d).standing.settled ≡ true
    → (T : ℕ) (table : List ℕ) (e : ℕ) (v₁ v₂ : ℕ → ℕ) → Answers l.holds (run ks d) T table e v₁ v₂
    → listing_text l.case ≡ text_of_answers l.holds T table e v₁ v₂
listing_answered ks d l settled U table e v₁ v₂ a =
    let c = l.holds in
    let t = opening_T l in
    let reads = (open_accepted l.case (run l.before d) c l.opens).reads in
    listing_is l.case c reads t.0 t.1 ∙ claimed_text c t.0 (answers_since l) (run ks d) (listed ks d l t.0 t.1) settled U table e v₁ v₂ a
