-- Of which formulas the entries shown and the score keep the bound, where the invariant holds. Rests on Demand3, Next, Stands, RefusedLaws, formula's
-- RoundTrip, and theory's Preservation.
--   shown_by_round, shown_at_T, scored_by_round, scored_at_T: the bounds of the entries shown, and of the score
--   promised_by_facts: what is promised by round and at T, of a formula of the case by the facts that were answered; facts_own: these are its own
use Rattle.std.specs.Prelude.{ℕ, ◌<◌, ◌≡◌, refl, true, false, List, length}
use Rattle.std.proofs.Common.{sym, ap, ◌∙◌, ⊎_elim, arith}
use Rattle.std.proofs.lemmas.Bool.{not-false}
use Rattle.theory.specs.Lattice.{Laws}
use Rattle.theory.specs.Formula.{Formula, UniversalSentence}
use Rattle.theory.proofs.Preservation.{bounded_by_round, bounded_at_T, score_by_round, score_at_T}
use Rattle.refusal.specs.declared.Refusal.{Refusal}
use Rattle.formula.specs.declared.FormulaFacts.{FormulaFacts}
use Rattle.formula.specs.Answer.{facts_of}
use Rattle.formula.specs.RoundTrip.{formula_part}
use Rattle.casefile.specs.Reading.{Content}
use Rattle.desk.specs.Desk.{Desk, Question, Call, Reply}
use Rattle.desk.specs.Case.{ops, model1, model2, formula_in}
use Rattle.desk.specs.Refused.{InRange, accepted, number_reply}
use Rattle.desk.specs.View.{View}
use Rattle.desk.specs.Perform.{asked, answer_to}
use Rattle.desk.specs.Run.{round_after, view_after}
use Rattle.desk.proofs.RefusedLaws.{unrefused_accepted}
use Rattle.desk.specs.Stands.{Stands}
use Rattle.desk.proofs.Stands.{known-sound}
use Rattle.desk.proofs.Next.{shown_below, answered_from}
use Rattle.desk.specs.Demand3.{FactsAnswered, by_value, by_whole, BoundedBy, ScoreBounds, PromisedByRound, PromisedAtT, PromisedByFacts}

formula_value_accepted : (q : Question) (d : Desk) (e : ℕ) (x : FormulaFacts) → asked q d ≡ Reply.FormulaValue e x → accepted (Call.Ask q) d ≡ true
formula_value_accepted q d e x p = unrefused_accepted q d (Reply.FormulaValue e x) p never
  where
    never : (r : Refusal) → number_reply r ≡ Reply.FormulaValue e x → ⊥
    never r h = let z : ◌≡◌ {A = ℕ} 0 1 = cc in omega arith

module _ {c : Content} {T : ℕ} (answers : List Reply) (d : Desk) (w : Stands c T (length answers) d) where
  abbrev view_now : View
  view_now = view_after c T (length answers)

  laws : Laws (ops c)
  laws = (known-sound w.known).laws

  -- ---- the bounds

  pub shown_by_round : PromisedByRound c T answers d (BoundedBy c T answers d)
  shown_by_round φ u x l = shown_below w _ (bounded_by_round laws (model1 c) (model2 c) φ u x (round_after c T (length answers)) l)

  pub shown_at_T : PromisedAtT c T answers d (BoundedBy c T answers d)
  shown_at_T z φ u = shown_below w _ (rw z (bounded_at_T laws (model1 c) (model2 c) T w.known.is_T φ u))

  score_answered : asked Question.Score d ≡ (answer_to Question.Score view_now).reply
  score_answered = ap (λ b. b.reply) ((answered_from w Question.Score).answers tt)

  pub scored_by_round : PromisedByRound c T answers d (ScoreBounds c T answers d)
  scored_by_round φ u x l = (_, score_answered, score_by_round laws (model1 c) (model2 c) φ u x (round_after c T (length answers)) l)

  pub scored_at_T : PromisedAtT c T answers d (ScoreBounds c T answers d)
  scored_at_T z φ u = (_, score_answered, rw z (score_at_T laws (model1 c) (model2 c) T w.known.is_T φ u))

  -- ---- the facts that value and whole answer

  -- from a question about formula f that answers facts: there is such a formula, and they are its own
  from_question : (q : Question) (f y e : ℕ) (x : FormulaFacts) → asked q d ≡ Reply.FormulaValue e x → (InRange q view_now → f < length c.formulas)
      → (answer_to q view_now).reply ≡ Reply.FormulaValue y (facts_of (formula_in c f)) → (f < length c.formulas) × (x ≡ facts_of (formula_in c f))
  from_question q f y e x p l h =
      let n = answered_from w q in
      let i = n.accepts.0 (formula_value_accepted q d e x p) in
      let z : Reply.FormulaValue e x ≡ Reply.FormulaValue y (facts_of (formula_in c f)) = sym p ∙ ap (λ b. b.reply) (n.answers i) ∙ h in
      (l i, cc)

  pub facts_own : (f : ℕ) (x : FormulaFacts) → FactsAnswered d f x → (f < length c.formulas) × (x ≡ facts_of (formula_in c f))
  facts_own f x (by_value m q e p) = from_question (Question.Value f m q) f _ e x p (λ i. i.0) refl
  facts_own f x (by_whole m e p) = from_question (Question.Whole f m) f _ e x p (λ i. i.0) refl

  -- a formula of the case without EX, by its facts, is a closed universal formula
  sentence : (f : ℕ) (x : FormulaFacts) → f < length c.formulas → x ≡ facts_of (formula_in c f) → x.ex ≡ false → UniversalSentence (model1 c).propositions (formula_in c f)
  sentence f x l h e =
      let p = formula_part (model1 c).propositions _ (formula_in c f) ((known-sound w.known).formulas.each f l) in
      record { is_closed = p.is_closed; is_universal = not-false _ (ap (λ (y : FormulaFacts). y.ex) (sym h) ∙ e); is_over = p.props }

  pub promised_by_facts : (P : Formula → Type 0) → PromisedByRound c T answers d P → PromisedAtT c T answers d P → PromisedByFacts c T answers d P
  promised_by_facts P by-round at_T f x a h =
      let own = facts_own f x a in
      let u = sentence f x own.0 own.1 h.0 in
      ⊎_elim (λ l. by-round (formula_in c f) u (not-false _ (ap (λ (y : FormulaFacts). y.fixpoint) (sym own.1) ∙ l.0)) (rw own.1 at l.1)) (λ z. at_T z (formula_in c f) u) h.1
