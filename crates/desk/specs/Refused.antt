-- Which refusal a call gets, or the content that it works on. Rests on Desk, Case, View, theory's Test, casefile's Reading, and refusal.
--   short, by too_short: 11, a buffer is too short
--   Rules: 12, the rules of the standing, the store and the tables; spoiled, by spoiled_as, obeys_for and rules_obeyed: their test
--   sizes_obey, row_obeys, settled_obeys, round_obeys, lowerings_obey, standing_obeys, table_obeys: the test rule by rule
--   Condition: what a question asks of its arguments after 12; condition_test, ConditionHolds: as a test and as a statement; refusal_of: its refusal
--   conditions, call_conditions: those of a question and of a call, in order; refusals_of, OneOf: their refusals
--   AllHold, InRange: all hold; FirstBroken: which is the first that is broken
--   first_refusal: the refusal of the first that is broken, if one is; no_refusal: none is; after_rules: what comes of it
--   examined: the refusal that a call gets, or the content that it works on, by after_short and of_store; accepted, by is_content: it gets none
--   number_reply, refused_reply: what a refused call answers
use Rattle.std.specs.Prelude.{ℕ, ◌+◌, ◌*◌, ◌-◌, ◌≤◌, ◌<◌, ◌≡◌, ◌⊎◌, Bool, true, false, cond, not, ◌&&◌, ◌||◌, List, [], ◌∷◌, ltb, leb, eqb, length, get_or}
use Rattle.std.proofs.Math.Option.{Option, none, some}
use Rattle.theory.specs.Test.{all_below, ◌⇒◌}
use Rattle.refusal.specs.declared.Refusal.{Refusal}
use Rattle.refusal.specs.declared.Refusal.TheVariants.{ShortDesk, SpoiledDesk, OutOfRange, ShortBuffer}
use Rattle.refusal.specs.Number.{number_of, part_of}
use Rattle.casefile.specs.Reading.{Content, CaseReading, refused, content, case_reading, store_reading, store_length}
use Rattle.desk.specs.Desk.{Standing, Desk, Question, Call, Reply}
use Rattle.desk.specs.Case.{lattice_size, N1, N2, table_size, model_in, limit, case_bytes}
use Rattle.desk.specs.View.{View, view_of}

-- ---- 11: 'the store or a table is shorter than above'

-- 'and two tables of 4,096'
abbrev pub table_length : ℕ
table_length = 4096

abbrev pub too_short : List ℕ → List ℕ → List ℕ → Bool
too_short store first second = ltb (length store) store_length || ltb (length first) table_length || ltb (length second) table_length

unfoldable pub short : Desk → Bool
short d = too_short d.store d.first d.second

-- ---- 12: 'when, and only when, one of these is broken', for N1, N2 and n

-- 'with the standing's sizes'
abbrev pub sizes_obey : ℕ → ℕ → Standing → Bool
sizes_obey n1 n2 s = eqb s.states1 n1 && eqb s.states2 n2

-- 'Next row is below N1; at next row 0 nothing has changed yet.'
abbrev pub row_obeys : ℕ → Standing → Bool
row_obeys n1 s = ltb s.row n1 && (eqb s.row 0 ⇒ not s.changed)

-- 'Unsettled, the round is at most N1·N2·(n − 1); settled, it is 1 to N1·N2·(n − 1) + 1 and next row is 0.'
abbrev pub settled_obeys : ℕ → Standing → Bool
settled_obeys most s = leb 1 s.round && leb s.round (most + 1) && eqb s.row 0

abbrev pub round_obeys : ℕ → Standing → Bool
round_obeys most s = cond s.settled (settled_obeys most s) (leb s.round most)

-- 'The standing's limits in refusal 12 include this bound with h replaced by n' (request 107): the lowerings are at most N1·N2·(n − 1), settled or not
abbrev pub lowerings_obey : ℕ → Standing → Bool
lowerings_obey most s = leb s.lowerings most

abbrev pub standing_obeys : ℕ → ℕ → ℕ → Standing → Bool
standing_obeys n1 n2 n s = sizes_obey n1 n2 s && row_obeys n1 s && round_obeys (n1 * n2 * (n - 1)) s && lowerings_obey (n1 * n2 * (n - 1)) s

-- 'The first N1·N2 bytes of both tables are below n.'
abbrev pub table_obeys : ℕ → ℕ → List ℕ → Bool
table_obeys count n t = all_below count (λ i. ltb (get_or t i 0) n)

unfoldable pub rules_obeyed : ℕ → ℕ → ℕ → Desk → Bool
rules_obeyed n1 n2 n d = standing_obeys n1 n2 n d.standing && table_obeys (n1 * n2) n d.first && table_obeys (n1 * n2) n d.second

-- the same rules for the sizes of a content
abbrev pub obeys_for : Content → Desk → Bool
obeys_for c d = rules_obeyed (N1 c) (N2 c) (lattice_size c) d

-- 'The store reads as a lattice, two models and formulas that open accepts', and the other rules are obeyed
abbrev pub spoiled_as : Desk → CaseReading → Bool
spoiled_as d (refused r) = true
spoiled_as d (content c) = not (obeys_for c d)

unfoldable pub spoiled : Desk → Bool
spoiled d = spoiled_as d (store_reading d.store)

-- The rules one by one, as statements. RulesLaws shows that the tests say the same.
pub record Rules (d : Desk) (c : Content) : Type 0 where
  pub reads : store_reading d.store ≡ content c
  pub size1 : d.standing.states1 ≡ N1 c
  pub size2 : d.standing.states2 ≡ N2 c
  pub row_below : d.standing.row < N1 c
  pub nothing_yet : d.standing.row ≡ 0 → d.standing.changed ≡ false
  pub unsettled_most : d.standing.settled ≡ false → d.standing.round ≤ limit c
  pub settled_least : d.standing.settled ≡ true → 1 ≤ d.standing.round
  pub settled_most : d.standing.settled ≡ true → d.standing.round ≤ limit c + 1
  pub settled_row : d.standing.settled ≡ true → d.standing.row ≡ 0
  pub lowerings_most : d.standing.lowerings ≤ limit c
  pub first_below_lem : (i : ℕ) → i < table_size c → get_or d.first i 0 < lattice_size c
  pub second_below : (i : ℕ) → i < table_size c → get_or d.second i 0 < lattice_size c

-- ---- 13: 'a formula, model, state or element in the call out of range, or judge's table of another length or with a byte not below n'
-- ---- 14: 'when the buffer is too short' (request 105), part 255

-- What a question asks of its arguments, after 12, for the view that it is answered from.
pub data Condition : Type 0 where
  -- the formula f, the model m, the state q of the model m, the element e is in range
  Formula Model : ℕ → Condition
  State : ℕ → ℕ → Condition
  Element : ℕ → Condition
  -- the table has N1·N2 bytes; they are below n
  TableLength TableBytes : List ℕ → Condition
  -- a buffer that is lent to write into has as many bytes as are to be written, so many of a content
  Fits : (Content → ℕ) → List ℕ → Condition

abbrev pub is_model : ℕ → Bool
is_model m = eqb m 1 || eqb m 2

-- a condition as a test
abbrev pub condition_test : Condition → View → Bool
condition_test (Condition.Formula f) v = ltb f (length v.holds.formulas)
condition_test (Condition.Model m) v = is_model m
condition_test (Condition.State m q) v = ltb q (model_in v.holds m).states
condition_test (Condition.Element e) v = ltb e (lattice_size v.holds)
condition_test (Condition.TableLength t) v = eqb (length t) (table_size v.holds)
condition_test (Condition.TableBytes t) v = table_obeys (table_size v.holds) (lattice_size v.holds) t
condition_test (Condition.Fits needed b) v = leb (needed v.holds) (length b)

-- and as a statement; `condition_exactly` (RulesLaws) ties the two
abbrev pub ConditionHolds : Condition → View → Type 0
ConditionHolds (Condition.Formula f) v = f < length v.holds.formulas
ConditionHolds (Condition.Model m) v = (m ≡ 1) ⊎ (m ≡ 2)
ConditionHolds (Condition.State m q) v = q < (model_in v.holds m).states
ConditionHolds (Condition.Element e) v = e < lattice_size v.holds
ConditionHolds (Condition.TableLength t) v = length t ≡ table_size v.holds
ConditionHolds (Condition.TableBytes t) v = (i : ℕ) → i < table_size v.holds → get_or t i 0 < lattice_size v.holds
ConditionHolds (Condition.Fits needed b) v = needed v.holds ≤ length b

-- the refusal that is given where it is broken
abbrev pub refusal_of : Condition → Refusal
refusal_of (Condition.Formula f) = OutOfRange
refusal_of (Condition.Model m) = OutOfRange
refusal_of (Condition.State m q) = OutOfRange
refusal_of (Condition.Element e) = OutOfRange
refusal_of (Condition.TableLength t) = OutOfRange
refusal_of (Condition.TableBytes t) = OutOfRange
refusal_of (Condition.Fits needed b) = ShortBuffer

-- the conditions of a question, in order; of any call: open, step and show have none
abbrev pub conditions : Question → List Condition
conditions Question.Score = []
conditions (Question.Value f m q) = Condition.Formula f ∷ Condition.Model m ∷ Condition.State m q ∷ []
conditions (Question.Whole f m) = Condition.Formula f ∷ Condition.Model m ∷ []
conditions (Question.Share e) = Condition.Element e ∷ []
conditions (Question.Judge t) = Condition.TableLength t ∷ Condition.TableBytes t ∷ []
conditions (Question.Write b) = Condition.Fits (λ c. length (case_bytes c)) b ∷ []

abbrev pub call_conditions : Call → List Condition
call_conditions (Call.Open b) = []
call_conditions Call.Step = []
call_conditions Call.Show = []
call_conditions (Call.Ask q) = conditions q

-- all of them hold, and so of those of a question
abbrev pub AllHold : List Condition → View → Type 0
AllHold [] v = Unit {0}
AllHold (x ∷ xs) v = ConditionHolds x v × AllHold xs v

abbrev pub InRange : Question → View → Type 0
InRange q = AllHold (conditions q)

-- r is the refusal of the first that is broken
abbrev pub FirstBroken : Refusal → List Condition → View → Type 0
FirstBroken r [] v = ⊥
FirstBroken r (x ∷ xs) v = (¬ ConditionHolds x v × (r ≡ refusal_of x)) ⊎ (ConditionHolds x v × FirstBroken r xs v)

-- the refusals that they give, in order; r is one of these
abbrev pub refusals_of : List Condition → List Refusal
refusals_of [] = []
refusals_of (x ∷ xs) = refusal_of x ∷ refusals_of xs

abbrev pub OneOf : Refusal → List Refusal → Type 0
OneOf r [] = ⊥
OneOf r (x ∷ xs) = (r ≡ x) ⊎ OneOf r xs

-- ---- 'The first that applies is given, in this order'

-- the refusal of the first condition that is broken, if one is: `holding_exactly` and `broken_exactly` (RulesLaws)
abbrev pub first_refusal : List Condition → View → Option Refusal
first_refusal [] v = none
first_refusal (x ∷ xs) v = cond (condition_test x v) (first_refusal xs v) (some (refusal_of x))

abbrev pub no_refusal : Option Refusal → Bool
no_refusal none = true
no_refusal (some r) = false

abbrev pub after_rules : Content → Option Refusal → CaseReading
after_rules c none = content c
after_rules c (some r) = refused r

-- 12, then the call's own conditions
abbrev pub of_store : Call → Desk → CaseReading → CaseReading
of_store k d (refused r) = refused SpoiledDesk
of_store k d (content c) = cond (obeys_for c d) (after_rules c (first_refusal (call_conditions k) (view_of c d))) (refused SpoiledDesk)

-- 'open uses 11 and 1 to 10, the other calls 11, 12, 13', write 'with 14, after 12'
abbrev pub after_short : Call → Desk → CaseReading
after_short (Call.Open b) d = case_reading b
after_short Call.Step d = of_store Call.Step d (store_reading d.store)
after_short Call.Show d = of_store Call.Show d (store_reading d.store)
after_short (Call.Ask q) d = of_store (Call.Ask q) d (store_reading d.store)

-- the refusal of a call, or the content that it works on: that of its case (open) or that of the store
unfoldable pub examined : Call → Desk → CaseReading
examined k d = cond (short d) (refused ShortDesk) (after_short k d)

abbrev pub is_content : CaseReading → Bool
is_content (refused r) = false
is_content (content c) = true

-- no refusal is given
unfoldable pub accepted : Call → Desk → Bool
unfolding examined
accepted k d = is_content (examined k d)

-- 'number' and 'part'
abbrev pub number_reply : Refusal → Reply
number_reply r = Reply.Refused (number_of r) (part_of r)

-- 'A refused show returns an empty part and no refusal number.'
abbrev pub refused_reply : Call → Refusal → Reply
refused_reply (Call.Open b) r = number_reply r
refused_reply Call.Step r = number_reply r
refused_reply Call.Show r = Reply.Shown []
refused_reply (Call.Ask q) r = number_reply r
