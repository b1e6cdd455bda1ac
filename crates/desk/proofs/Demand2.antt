-- Demand 2, of the desk after every list of calls with an accepted opening in it. Rests on Run, and for the proof on Demand3Holds, Listed,
-- RefusedLaws, theory's Rounds and Fixpoint.
-- The definitions are in specs/Demand2.
--     calls answer (values, wholes), with the formula's facts, that there is this calculus (calculus_is), and every closed formula's values (values_are)
--   demand2: the demand holds after every such list
--   is_calculus, value_of: the last two, of any content that is sound; value_asked, whole_asked: the answers, of any desk where they are accepted
-- d is the desk after such a list, and the case of its last accepted opening holds c
use Rattle.std.specs.Prelude.{ℕ, ◌<◌, ◌≡◌, refl, Bool, true, false, cond, List, eqb, length, take}
use Rattle.std.proofs.Common.{sym, ap, ◌∙◌, le_refl}
use Rattle.theory.specs.Lattice.{Ops, imp, big_meet}
use Rattle.theory.specs.Model.{Model, Valued}
use Rattle.theory.specs.Formula.{Formula, closed, over_props}
use Rattle.theory.specs.Value.{SameMap, eval, enough, value_at, whole_value}
use Rattle.theory.specs.Calculus.{Calculus}
use Rattle.theory.specs.Simulation.{SameTable, GreatestSimulation}
use Rattle.theory.specs.Folds.{big_meet_cong}
use Rattle.theory.proofs.Fixpoint.{calculus, value_is}
use Rattle.theory.proofs.Rounds.{F_cong}
use Rattle.formula.specs.Answer.{facts_of}
use Rattle.formula.specs.RoundTrip.{formula_part}
use Rattle.casefile.specs.Reading.{Content, content, store_reading}
use Rattle.casefile.specs.Content.{ContentSound}
use Rattle.casefile.proofs.Content.{content_sound}
use Rattle.desk.specs.Desk.{Desk, Question, Call, Reply, is_open}
use Rattle.desk.specs.Case.{ops, model1, model2, model_in, formula_in, round_in}
use Rattle.desk.specs.Refused.{examined, accepted}
use Rattle.desk.specs.View.{shown_table, view_of}
use Rattle.desk.specs.Perform.{asked, answer}
use Rattle.desk.specs.Run.{run, LastOpening, answers_since, round_after}
use Rattle.desk.proofs.RefusedLaws.{perform_accepted, accepted_content, other_accepted}
use Rattle.desk.proofs.RulesLaws.{range_exactly}
use Rattle.desk.proofs.Listed.{opening_T}
use Rattle.desk.proofs.Demand3Holds.{listed}
use Rattle.desk.specs.Demand2.{Demand2}

-- ==== the proof

-- ---- 'the settled table is the greatest latticed simulation'

-- a table that equals the greatest simulation at the pairs of states is it
same_greatest : {O : Ops ℕ} (M₁ M₂ : Model ℕ) (S U : ℕ → ℕ → ℕ) → SameTable O M₁ M₂ S U → GreatestSimulation O M₁ M₂ U → GreatestSimulation O M₁ M₂ S
same_greatest {O} M₁ M₂ S U h g =
    record {
      is_fixed = λ q₁ l q₂ m. h q₁ l q₂ m ∙ g.is_fixed q₁ l q₂ m ∙ sym (F_cong O M₁ M₂ h q₁ q₂);
      greatest = λ W w q₁ l q₂ m. rw (h q₁ l q₂ m) (g.greatest W w q₁ l q₂ m);
    }

settled_shown : (ks : List Call) (d : Desk) (l : LastOpening ks d) → (run ks d).standing.settled ≡ true → GreatestSimulation (ops l.holds) (model1 l.holds) (model2 l.holds) (shown_table l.holds (run ks d))
settled_shown ks d l e =
    let t = opening_T l in
    let w = listed ks d l t.0 t.1 in
    let r : round_after l.holds t.0 (length (answers_since l)) ≡ t.0 = w.settled_exactly.0 e in
    same_greatest (model1 l.holds) (model2 l.holds) (shown_table l.holds (run ks d)) (round_in l.holds t.0) (rw r at w.shown_is) w.T_greatest

-- ---- 'Formula values are those of the latticed mu-calculus', at any desk on which the call is accepted: u is any function that gives these

module _ (c : Content) (h : ContentSound c) where
  in_model : (t : Bool) → Valued (ops c) (cond t (model1 c) (model2 c)) × ((cond t (model1 c) (model2 c)).propositions ≡ (model1 c).propositions)
  in_model true = (h.valued1, refl)
  in_model false = (h.valued2, sym h.same_propositions)

  pub is_calculus : (m : ℕ) → Calculus (ops c) (model_in c m) (eval (ops c) (model_in c m) (enough (ops c) (model_in c m)))
  is_calculus m = calculus h.laws (model_in c m) (in_model (eqb m 1)).0 (enough (ops c) (model_in c m)) (le_refl _)

  -- the value of a closed formula, as u gives it
  pub value_of : (m : ℕ) (φ : Formula) → closed φ ≡ true → over_props (model1 c).propositions φ ≡ true → (u : Formula → (ℕ → ℕ → ℕ) → ℕ → ℕ)
      → Calculus (ops c) (model_in c m) u → SameMap (ops c) (model_in c m) (value_at (ops c) (model_in c m) φ) (u φ (λ v i. (ops c).bot))
  value_of m φ b o u a = let w = in_model (eqb m 1) in value_is h.laws (model_in c m) w.0 φ b (rw w.1 o) u a

  value_by : (f m : ℕ) → f < length c.formulas → (u : Formula → (ℕ → ℕ → ℕ) → ℕ → ℕ) → Calculus (ops c) (model_in c m) u → SameMap (ops c) (model_in c m) (value_at (ops c) (model_in c m) (formula_in c f)) (u (formula_in c f) (λ v i. (ops c).bot))
  value_by f m k u a =
      let p = formula_part (model1 c).propositions _ (formula_in c f) (h.formulas.each f k) in
      value_of m (formula_in c f) p.is_closed p.props u a

-- a value of formula f, with its facts
abbrev with_facts : Content → ℕ → ℕ → Reply
with_facts c f x = Reply.FormulaValue x (facts_of (formula_in c f))

pub value_asked : (f m q : ℕ) (d : Desk) (c : Content) → examined (Call.Ask (Question.Value f m q)) d ≡ content c → (u : Formula → (ℕ → ℕ → ℕ) → ℕ → ℕ) → Calculus (ops c) (model_in c m) u → asked (Question.Value f m q) d ≡ Reply.FormulaValue (u (formula_in c f) (λ v i. (ops c).bot) q) (facts_of (formula_in c f))
unfolding answer
value_asked f m q d c e u a =
    let k = other_accepted (Call.Ask (Question.Value f m q)) d c refl e in
    let i = (range_exactly (Question.Value f m q) (view_of c d)).0 k.range in
    ap (λ x. x.reply) (perform_accepted (Call.Ask (Question.Value f m q)) d c e) ∙ ap (with_facts c f) (value_by c (content_sound (take 24576 d.store) c k.held.rules.reads) f m i.0 u a q i.1.1.0)

-- 'A formula's value on a whole model is the meet over q of Q0(q) → value at q'
pub whole_asked : (f m : ℕ) (d : Desk) (c : Content) → examined (Call.Ask (Question.Whole f m)) d ≡ content c → (u : Formula → (ℕ → ℕ → ℕ) → ℕ → ℕ) → Calculus (ops c) (model_in c m) u → asked (Question.Whole f m) d ≡ Reply.FormulaValue (big_meet (ops c) (model_in c m).states (λ q. imp (ops c) ((model_in c m).initial q) (u (formula_in c f) (λ v i. (ops c).bot) q))) (facts_of (formula_in c f))
unfolding answer whole_value
whole_asked f m d c e u a =
    let k = other_accepted (Call.Ask (Question.Whole f m)) d c refl e in
    let i = (range_exactly (Question.Whole f m) (view_of c d)).0 k.range in
    ap (λ x. x.reply) (perform_accepted (Call.Ask (Question.Whole f m)) d c e)
    ∙ ap (with_facts c f) (big_meet_cong (ops c) (model_in c m).states _ _ (λ q l. ap (imp (ops c) ((model_in c m).initial q)) (value_by c (content_sound (take 24576 d.store) c k.held.rules.reads) f m i.0 u a q l)))

-- ---- the two together

-- an accepted question works on what the store holds
asked_of : (k : Call) (d : Desk) (c : Content) → is_open k ≡ false → store_reading d.store ≡ content c → accepted k d ≡ true → examined k d ≡ content c
asked_of k d c o h a =
    let w = accepted_content k d a in
    let q : content w.0 ≡ content c = sym (other_accepted k d w.0 o w.1).held.rules.reads ∙ h in
    w.1 ∙ q

pub demand2 : (ks : List Call) (d : Desk) (l : LastOpening ks d) → Demand2 l.holds (run ks d)
demand2 ks d l =
    let c = l.holds in
    let t = opening_T l in
    let store = (listed ks d l t.0 t.1).store_holds in
    record {
      settled_table = settled_shown ks d l;
      calculus_is = is_calculus c (content_sound (take 24576 (run ks d).store) c store);
      values_are = value_of c (content_sound (take 24576 (run ks d).store) c store);
      values = λ f m q a u h. value_asked f m q (run ks d) c (asked_of (Call.Ask (Question.Value f m q)) (run ks d) c refl store a) u h;
      wholes = λ f m a u h. whole_asked f m (run ks d) c (asked_of (Call.Ask (Question.Whole f m)) (run ks d) c refl store a) u h;
    }
