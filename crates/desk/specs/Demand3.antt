-- Demand 3: one claim about every list of calls from any desk, refused ones included, with an accepted opening in it. Rests on Run.
--   FactsAnswered: value or whole answered these facts of a formula; SaysYes: judge says yes of a table
--   WritesBack: what write answers and leaves in its buffer; OpenedAnew: what opening that gives
--   BoundedIn, BoundedBy: the entries of a table, and those shown, bound a formula; ScoreBounds: score's answer does
--   PromisedByRound, PromisedAtT: of which formulas this is promised; Covers, PromisedByFacts: the same by a formula's facts
--   Claim: the claim, a field for each part of it; Demand3: there are a last accepted opening and a T of which it holds
-- Demand3Holds proves it.
use Rattle.std.specs.Prelude.{ℕ, ◌+◌, ◌*◌, ◌-◌, ◌%◌, ◌≤◌, ◌<◌, ◌≡◌, true, false, ◌⊎◌, ◌↔◌, List, [], ◌∷◌, length, get_or, take, replicate}
use Rattle.theory.specs.Lists.{written}
use Rattle.theory.specs.Lattice.{LongestChain}
use Rattle.theory.specs.Formula.{Formula, fixpoint_free, nested_AX, UniversalSentence}
use Rattle.theory.specs.Value.{value_at}
use Rattle.theory.specs.Simulation.{SameTable, AtMostTable, Bounds, BoundsWhole, Simulation, GreatestSimulation, PostFixedBy}
use Rattle.refusal.specs.declared.Refusal.TheVariants.{ShortDesk, SpoiledDesk, ShortBuffer}
use Rattle.formula.specs.declared.FormulaFacts.{FormulaFacts}
use Rattle.casefile.specs.Reading.{Content, refused, content, case_reading, store_reading}
use Rattle.desk.specs.Desk.{Desk, Question, Call, Reply}
use Rattle.desk.specs.Case.{ops, model1, model2, N1, table_size, formula_in, operator, round_in, IsT, table_bytes, case_bytes}
use Rattle.desk.specs.Refused.{short, spoiled, InRange, examined, accepted, number_reply}
use Rattle.desk.specs.Moved.{fresh}
use Rattle.desk.specs.View.{shown_table, given_table}
use Rattle.desk.specs.Perform.{perform, asked, show_answer}
use Rattle.desk.specs.Run.{run, LastOpening, answers_since, round_after, lowerings_after, answer_after, view_after, AnsweredFrom}

-- 'Value and whole pass these three on with the element' (request 102): one of them, on the desk d, answered x of formula f
pub data FactsAnswered (d : Desk) (f : ℕ) (x : FormulaFacts) : Type 0 where
  by_value : (m q e : ℕ) → asked (Question.Value f m q) d ≡ Reply.FormulaValue e x → FactsAnswered d f x
  by_whole : (m e : ℕ) → asked (Question.Whole f m) d ≡ Reply.FormulaValue e x → FactsAnswered d f x

-- judge on the desk d says yes of the table t: t passes
abbrev pub SaysYes : Desk → List ℕ → Type 0
SaysYes d t = asked (Question.Judge t) d ≡ Reply.Says true

-- write on the desk d, lent the buffer b, answers the length n and leaves w in the buffer; the desk is as it was
abbrev pub WritesBack : Desk → List ℕ → ℕ → List ℕ → Type 0
WritesBack d b n w = perform (Call.Ask (Question.Write b)) d ≡ record { reply = Reply.Length n; desk = d; lent = w ∷ [] }

-- 'the same store reading, at round 0 with both tables top' (request 105): the desk f, after an opening, beside the desk d that holds c
pub record OpenedAnew (d f : Desk) (c : Content) : Type 0 where
  pub same_reading : store_reading f.store ≡ store_reading d.store
  pub stands-fresh : f.standing ≡ fresh c
  pub first_top : take (table_size c) f.first ≡ replicate (table_size c) (ops c).top
  pub second_top : take (table_size c) f.second ≡ replicate (table_size c) (ops c).top

-- 'A pair's entry is at most "not the formula's value at the pair's state of model 2, joined with its value at the pair's state of model 1"', of every
-- entry of a table
abbrev pub BoundedIn : Content → (ℕ → ℕ → ℕ) → Formula → Type 0
BoundedIn c S φ = Bounds (ops c) (model1 c) (model2 c) S (value_at (ops c) (model1 c) φ) (value_at (ops c) (model2 c) φ)

-- c is what the case holds, `answers` are those of the accepted steps since it was opened, d is the desk after the list
module _ (c : Content) (T : ℕ) (answers : List Reply) (d : Desk) where
  -- 'let s be the number of accepted steps since the last such opening'
  abbrev s : ℕ
  s = length answers

  abbrev r : ℕ
  r = round_after c T s

  -- two tables agree at the pairs of states; the first lies at or below the second there
  abbrev Same : (ℕ → ℕ → ℕ) → (ℕ → ℕ → ℕ) → Type 0
  Same = SameTable (ops c) (model1 c) (model2 c)

  abbrev Below : (ℕ → ℕ → ℕ) → (ℕ → ℕ → ℕ) → Type 0
  Below = AtMostTable (ops c) (model1 c) (model2 c)

  -- the entries shown bound a formula
  abbrev pub BoundedBy : Formula → Type 0
  BoundedBy = BoundedIn c (shown_table c d)

  -- 'the score shall be at most "not the whole value on model 2, joined with the whole value on model 1"' (request 106): score answers such an element
  abbrev pub ScoreBounds : Formula → Type 0
  ScoreBounds φ = (e : ℕ) × (asked Question.Score d ≡ Reply.Element e) × BoundsWhole (ops c) (model1 c) (model2 c) e φ

  -- P is promised 'for every closed universal formula without fixpoints and with fewer than r nested AX', 'and once r = T for every closed universal
  -- formula'; 'under the same conditions' (request 106) for a pair and for the score
  abbrev pub PromisedByRound : (Formula → Type 0) → Type 0
  PromisedByRound P = (φ : Formula) → UniversalSentence (model1 c).propositions φ → fixpoint_free φ ≡ true → nested_AX φ < r → P φ

  abbrev pub PromisedAtT : (Formula → Type 0) → Type 0
  PromisedAtT P = r ≡ T → (φ : Formula) → UniversalSentence (model1 c).propositions φ → P φ

  -- these conditions by the facts x of a formula: no EX, and either no fixpoint and fewer than r nested AX, or r = T; and what is promised by the facts
  -- that were answered of a formula of the case
  abbrev pub Covers : FormulaFacts → Type 0
  Covers x = (x.ex ≡ false) × (((x.fixpoint ≡ false) × (x.nesting < r)) ⊎ (r ≡ T))

  abbrev pub PromisedByFacts : (Formula → Type 0) → Type 0
  PromisedByFacts P = (f : ℕ) (x : FormulaFacts) → FactsAnswered d f x → Covers x → P (formula_in c f)

  pub record Claim : Type 0 where
    -- 'after the list the standing's round is r, its next row is s modulo N1 while r is below T and 0 at T, and it is settled
    -- exactly when r = T'
    pub round_is : d.standing.round ≡ r
    pub row_below_T : r < T → d.standing.row ≡ s % N1 c
    pub row_at_T : r ≡ T → d.standing.row ≡ 0
    pub settled_exactly : (d.standing.settled ≡ true) ↔ (r ≡ T)
    -- 'The lattice, models and formulas are those in the case of the last accepted opening': so the store is read
    pub store_holds : store_reading d.store ≡ content c
    -- 'The table shown is that of round r'
    pub shown_is : Same (shown_table c d) (round_in c r)
    -- 'Each entry is at or above the greatest simulation's', which is the table of round T
    pub T_greatest : GreatestSimulation (ops c) (model1 c) (model2 c) (round_in c T)
    pub above : (G : ℕ → ℕ → ℕ) → GreatestSimulation (ops c) (model1 c) (model2 c) G → Below G (shown_table c d)
    -- 'A pair's entry is at most ..', and (request 106) the score
    pub bounded_by_round : PromisedByRound BoundedBy
    pub bounded_at_T : PromisedAtT BoundedBy
    pub score_by_round : PromisedByRound ScoreBounds
    pub score_at_T : PromisedAtT ScoreBounds
    -- request 102: that the shown entries, and so the score, bound a formula of the case is known from the facts that value or whole answers of it. By
    -- `question_next` these are the same after every list with this last accepted opening, so that one answer serves for all later rounds.
    pub covered : PromisedByFacts BoundedBy
    pub score_covered : PromisedByFacts ScoreBounds
    -- request 104: 'S at or below F(S) everywhere. Judge shall say yes exactly then', of a table that 13 does not refuse
    pub passes_exactly : (t : List ℕ)
        → SaysYes d t ↔ (InRange (Question.Judge t) (view_after c T s) × PostFixedBy (ops c) (model1 c) (model2 c) (operator c) (given_table c t))
    -- 'Whatever it passes must lie at or below the greatest simulation', whatever that is, 'and keep the bound for every closed universal formula', at
    -- every pair and whatever round is shown
    pub passed_le : (t : List ℕ) → SaysYes d t → (G : ℕ → ℕ → ℕ) → GreatestSimulation (ops c) (model1 c) (model2 c) G → Below (given_table c t) G
    pub passed_bounds : (t : List ℕ) → SaysYes d t → (φ : Formula) → UniversalSentence (model1 c).propositions φ → BoundedIn c (given_table c t) φ
    -- every simulation passes. What show answers passes exactly from round T − 1 on, whose table is that of round T: so on every settled desk
    pub simulation_passes : (S : ℕ → ℕ → ℕ) → Simulation (ops c) (model1 c) (model2 c) S → SaysYes d (table_bytes c S)
    pub shown_passes_exactly : (t : List ℕ) → show_answer d ≡ Reply.Shown t → SaysYes d t ↔ (T ≤ r + 1)
    -- request 105: write answers the length of the case without gaps, at most 16,618, and leaves the case at the front of its buffer, bytes past it
    -- kept; 'refused with 14 .. when the buffer is too short', which alters nothing
    pub written_back : (b : List ℕ) → length (case_bytes c) ≤ length b → WritesBack d b (length (case_bytes c)) (written 0 (case_bytes c) b)
    pub case_most : length (case_bytes c) ≤ 16618
    pub write_refused : (b : List ℕ) → length b < length (case_bytes c)
        → perform (Call.Ask (Question.Write b)) d ≡ record { reply = number_reply ShortBuffer; desk = d; lent = b ∷ [] }
    -- 'Opening what was written gives the same store reading, at round 0 with both tables top', on every desk to which 11 does not apply
    pub written_opens : (b w : List ℕ) (n : ℕ) → WritesBack d b n w → (e : Desk) → short e ≡ false
        → ((perform (Call.Open (take n w)) e).reply ≡ Reply.Opened) × OpenedAnew d (perform (Call.Open (take n w)) e).desk c
    -- 'T is at most N1·N2·(h − 1) + 1, h being the number of elements in the lattice's longest chain'; there is such an h
    pub h_exists : (h : ℕ) × LongestChain (ops c) h
    pub T_most : (h : ℕ) → LongestChain (ops c) h → T ≤ table_size c * (h - 1) + 1
    -- 'The last accepted step since that opening, if there was one, answered Settled(T) when r = T, else Round(r) when s is a multiple of
    -- N1, else Row', with the lowerings of the rounds 1 to r. (The list is not empty: Opened, which no step answers, stands for no answer.)
    pub answered : 0 < s → get_or answers (s - 1) Reply.Opened ≡ answer_after c T s
    -- request 107: the standing's count is 'the entries that differ from the round before, summed over the whole rounds shown', that is, over the rounds 1
    -- to r, and 'at most N1·N2·(h − 1)'. The last accepted step answered it (`answered`); from T on it stays, as r does.
    pub lowerings_are : d.standing.lowerings ≡ lowerings_after c T s
    pub lowerings_most : (h : ℕ) → LongestChain (ops c) h → d.standing.lowerings ≤ table_size c * (h - 1)
    -- 'Neither 11 nor 12 applies to the call that comes next, whichever it is'
    pub not_short : short d ≡ false
    pub not_spoiled : spoiled d ≡ false
    pub not_11 : (k : Call) → examined k d ≡ refused ShortDesk → ⊥
    pub not_12 : (k : Call) → examined k d ≡ refused SpoiledDesk → ⊥
    -- open is then accepted exactly when its case is, and step always
    pub open_next : (b : List ℕ) → examined (Call.Open b) d ≡ case_reading b
    pub step_next : accepted Call.Step d ≡ true
    -- 'show then answers the table of round r, and value, whole, score, share and judge, when accepted, what their definitions give for
    -- that case with round r shown.' A question is accepted exactly when its conditions hold there.
    pub show_next : show_answer d ≡ Reply.Shown (table_bytes c (round_in c r))
    pub question_next : (q : Question) → AnsweredFrom q d (view_after c T s)

-- Demand 3 of a list of calls from a desk: there is a last accepted opening and a T, and after the list the claim holds
pub record Demand3 (ks : List Call) (d : Desk) : Type 0 where
  pub opening : LastOpening ks d
  pub T : ℕ
  -- 'T is the least t above 0 for which round t equals round t − 1'
  pub is_T : IsT opening.holds T
  pub claim : Claim opening.holds T (answers_since opening) (run ks d)
