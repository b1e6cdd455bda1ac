-- What judge's yes and no say of a table (request 104), of a desk whose questions are answered from a view. Rests on Demand3, Refused, Run, RefusedLaws,
-- ViewLaws, theory's Rounds and Preservation, rounds' Round, and casefile's Content.
-- The definitions are in specs/Judged.
--   judge-yes, judge-no: of a table that is not refused, yes is said exactly where it is; passes_exactly: of any bytes
--   passed_le, passed_bounds: such a table lies at or below every greatest simulation, and bounds every closed universal formula
--   simulation_passes: every simulation gets a yes; round-passes-exactly: so do round T − 1 and those after it, and no other
use Rattle.std.specs.Prelude.{ℕ, ◌+◌, ◌≤◌, ◌≡◌, Bool, true, false, ◌↔◌, List}
use Rattle.std.proofs.Common.{sym, ap, ◌∙◌, arith, ltb-true}
use Rattle.theory.specs.Lattice.{Element}
use Rattle.theory.specs.Formula.{Formula, UniversalSentence}
use Rattle.theory.specs.Simulation.{SameTable, AtMostTable, AllPairs, Simulation, GreatestSimulation}
use Rattle.theory.proofs.Rounds.{F_cong, F_element, fixed_below, round_element, post_fixed_le, round_post_fixed_exactly}
use Rattle.theory.proofs.Preservation.{bounded-table}
use Rattle.theory.specs.Loop.{tab_at, tab-length}
use Rattle.theory.specs.TestLaws.{false_true, not_passed}
use Rattle.refusal.specs.declared.Refusal.{Refusal}
use Rattle.casefile.specs.Reading.{Content}
use Rattle.casefile.specs.Content.{ContentSound}
use Rattle.rounds.specs.Table.{post_fixed_test}
use Rattle.rounds.specs.Round.{post_fixed_test_lem}
use Rattle.desk.specs.Desk.{Desk, Question, Call, Reply}
use Rattle.desk.specs.Case.{ops, model1, model2, table_size, operator, round_in, IsT, entry_at, table_bytes}
use Rattle.desk.specs.View.{View, given_table}
use Rattle.desk.specs.Refused.{accepted, number_reply, InRange}
use Rattle.desk.specs.Perform.{asked}
use Rattle.desk.specs.Run.{AnsweredFrom}
use Rattle.desk.specs.Demand3.{SaysYes, BoundedIn}
use Rattle.desk.proofs.RefusedLaws.{unrefused_accepted, answered_reply}
use Rattle.desk.proofs.ViewLaws.{pairs_at, bytes_table}
use Rattle.desk.specs.Judged.{PostFixed}

-- ---- tables as bytes, and at the pairs of states

-- being at or below F is seen at the pairs of states
post_fixed_cong : (c : Content) {S U : ℕ → ℕ → ℕ} → SameTable (ops c) (model1 c) (model2 c) S U → PostFixed c S ↔ PostFixed c U
post_fixed_cong c {S} {U} h = (
  λ p q₁ l q₂ m. rw (h q₁ l q₂ m, F_cong (ops c) (model1 c) (model2 c) h q₁ q₂) at (p q₁ l q₂ m),
  λ p q₁ l q₂ m. rw (h q₁ l q₂ m, F_cong (ops c) (model1 c) (model2 c) h q₁ q₂) (p q₁ l q₂ m),
)

-- every entry at the pairs of states is an element
abbrev OfElements : Content → (ℕ → ℕ → ℕ) → Type 0
OfElements c S = AllPairs (ops c) (model1 c) (model2 c) (λ q₁ q₂. Element (ops c) (S q₁ q₂))

-- such a table, as bytes, is within judge's range
bytes_range : (v : View) (S : ℕ → ℕ → ℕ) → OfElements v.holds S → InRange (Question.Judge (table_bytes v.holds S)) v
bytes_range v S e =
    let c = v.holds in (
      tab-length (entry_at c S) (table_size c) 0,
      (λ i l. rw (tab_at (entry_at c S) (table_size c) i l) (ltb-true _ _ (pairs_at c (λ q₁ q₂. Element (ops c) (S q₁ q₂)) e i l)), tt),
    )

says_same : (x y : Bool) → Reply.Says x ≡ Reply.Says y → x ≡ y
says_same x y q = cc

refusal_not_yes : (r : Refusal) → number_reply r ≡ Reply.Says true → ⊥
refusal_not_yes r h = let z : ◌≡◌ {A = ℕ} 0 1 = cc in omega arith

-- ---- yes and no

module _ (v : View) {d : Desk} (n : (q : Question) → AnsweredFrom q d v) where
  module _ (t : List ℕ) where
    abbrev test : Bool
    test = post_fixed_test (ops v.holds) (model1 v.holds) (model2 v.holds) (operator v.holds) (given_table v.holds t)

    test-exactly : (test ≡ true) ↔ PostFixed v.holds (given_table v.holds t)
    test-exactly = post_fixed_test_lem (ops v.holds) (model1 v.holds) (model2 v.holds) (operator v.holds) (given_table v.holds t)

    module _ (a : accepted (Call.Ask (Question.Judge t)) d ≡ true) where
      judge-answer : asked (Question.Judge t) d ≡ Reply.Says test
      judge-answer = answered_reply (n (Question.Judge t)) a

      pub judge-yes : SaysYes d t ↔ PostFixed v.holds (given_table v.holds t)
      judge-yes = (λ q. test-exactly.0 (says_same test true (sym judge-answer ∙ q)), λ h. judge-answer ∙ ap Reply.Says (test-exactly.1 h))

      pub judge-no : (asked (Question.Judge t) d ≡ Reply.Says false) ↔ ¬ (PostFixed v.holds (given_table v.holds t))
      judge-no = (λ q h. false_true (says_same test false (sym judge-answer ∙ q)) (test-exactly.1 h), λ m. judge-answer ∙ ap Reply.Says (not_passed test (λ p. m (test-exactly.0 p))))

    -- a yes is no refusal
    yes-accepted : SaysYes d t → accepted (Call.Ask (Question.Judge t)) d ≡ true
    yes-accepted p = unrefused_accepted (Question.Judge t) d (Reply.Says true) p refusal_not_yes

    pub passes_exactly : SaysYes d t ↔ (InRange (Question.Judge t) v × PostFixed v.holds (given_table v.holds t))
    passes_exactly = (
      λ p. ((n (Question.Judge t)).accepts.0 (yes-accepted p), (judge-yes (yes-accepted p)).0 p),
      λ h. (judge-yes ((n (Question.Judge t)).accepts.1 h.0)).1 h.1,
    )

  module _ (sound : ContentSound v.holds) where
    -- ---- what a yes says

    pub passed_le : (t : List ℕ) → SaysYes d t → (G : ℕ → ℕ → ℕ) → GreatestSimulation (ops v.holds) (model1 v.holds) (model2 v.holds) G
        → AtMostTable (ops v.holds) (model1 v.holds) (model2 v.holds) (given_table v.holds t) G
    passed_le t p = post_fixed_le sound.laws (model1 v.holds) (model2 v.holds) (given_table v.holds t) ((passes_exactly t).0 p).1

    pub passed_bounds : (t : List ℕ) → SaysYes d t → (φ : Formula) → UniversalSentence (model1 v.holds).propositions φ → BoundedIn v.holds (given_table v.holds t) φ
    passed_bounds t p = bounded-table sound.laws (model1 v.holds) (model2 v.holds) (given_table v.holds t) ((passes_exactly t).0 p).1

    -- ---- which tables get it

    bytes-pass-exactly : (S : ℕ → ℕ → ℕ) → OfElements v.holds S → SaysYes d (table_bytes v.holds S) ↔ PostFixed v.holds S
    bytes-pass-exactly S e =
        let yes = passes_exactly (table_bytes v.holds S) in
        let same = post_fixed_cong v.holds (bytes_table v.holds S) in
        (λ q. same.0 (yes.0 q).1, λ h. yes.1 (bytes_range v S e, same.1 h))

    pub simulation_passes : (S : ℕ → ℕ → ℕ) → Simulation (ops v.holds) (model1 v.holds) (model2 v.holds) S → SaysYes d (table_bytes v.holds S)
    simulation_passes S h =
        (bytes-pass-exactly S (λ q₁ l q₂ m. rw (h q₁ l q₂ m) (F_element sound.laws (model1 v.holds) (model2 v.holds) S q₁ q₂))).1
        (fixed_below sound.laws (model1 v.holds) (model2 v.holds) (operator v.holds) S h)

    pub round-passes-exactly : (T : ℕ) → IsT v.holds T → (r : ℕ) → SaysYes d (table_bytes v.holds (round_in v.holds r)) ↔ (T ≤ r + 1)
    round-passes-exactly T is_T r =
        let bytes = bytes-pass-exactly (round_in v.holds r) (λ q₁ l q₂ m. round_element sound.laws (model1 v.holds) (model2 v.holds) r q₁ q₂) in
        let rounds = round_post_fixed_exactly sound.laws (model1 v.holds) (model2 v.holds) T is_T r in
        (λ q. rounds.0 (bytes.0 q), λ l. bytes.1 (rounds.1 l))
