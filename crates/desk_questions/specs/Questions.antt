-- What the questions are answered, from what the code found. Rests on desk_check's Held, entries' Table, rounds' Table, share's ShareIn, valuer's Values and
-- formula's Answer.
--   Readable, case_score, case_post_fixed, range_test: the terms of the code's contracts
--   readable, model_over, formula_on_model, propositions_are, formula_reads, whole_fits, some_entries: a held desk meets what these terms and the functions ask
--   held-show, held_score, held_share, held_judge, held_whole, held_value: each question answered
--   share_outside, judge_long, judge_high, whole_outside, value_outside, value_state: each refused with 13
use Rattle.std.specs.Prelude.{ℕ, ◌+◌, ◌*◌, ◌≤◌, ◌<◌, ◌≡◌, refl, Bool, true, false, cond, ◌&&◌, List, ltb, eqb, length, get_or, take}
use Rattle.std.proofs.Common.{sym, ap, ◌∙◌, arith, ltb-true}
use Rattle.std.proofs.Math.Option.{Option, none, some}
use Rattle.theory.specs.Model.{Model}
use Rattle.theory.specs.Part.{model_of}
use Rattle.theory.specs.Simulation.{share}
use Rattle.theory.proofs.Share.{share_cong}
use Rattle.theory.specs.TestLaws.{and_l, and_r, cond_true, cond_false}
use Rattle.formula.specs.declared.FormulaFacts.{FormulaFacts}
use Rattle.formula.specs.Bytes.{read, formula_reading}
use Rattle.formula.specs.Answer.{IsFormula, FactsIn}
use Rattle.casefile.specs.declared.Sizes.{Sizes}
use Rattle.casefile.specs.Directory.{part_count, part_at}
use Rattle.casefile.specs.Conditions.{Placed}
use Rattle.valuer.specs.Values.{ModelOver, ValueAt, WholeValue}
use Rattle.entries.specs.Table.{Shaped}
use Rattle.rounds.specs.Table.{score_in, post_fixed_in}
use Rattle.rounds.specs.Round.{byte_at}
use Rattle.share.specs.ShareIn.{share_in, share_in_is}
use Rattle.desk.specs.Desk.{Desk, Question, Call, Reply, whole_table}
use Rattle.desk.specs.Case.{ops, lattice_size, model1, model2, N1, N2, table_size, model_in, formula_in, operator, entry_at}
use Rattle.desk.specs.View.{shown_table}
use Rattle.desk.specs.CaseParts.{FormulaOnModel}
use Rattle.desk.proofs.CaseParts.{model_part, model_valued, formula_part, parts_formula_on_model}
use Rattle.elements.specs.declared.Lattice.{Lattice}
use Rattle.elements.specs.Words.{Coded}
use Rattle.desk.specs.Refused.{table_obeys, is_model, number_reply}
use Rattle.refusal.specs.declared.Refusal.{Refusal}
use Rattle.refusal.specs.declared.Refusal.TheVariants.{OutOfRange}
use Rattle.desk_check.specs.Answer.{Does}
use Rattle.desk_check.specs.Held.{HeldDesk, few, held_shown, held_question, held_outside}

-- what score and judge ask of the codes w, of the case b and of a table
pub record Readable (w : List ℕ) (l : Lattice) (b table : List ℕ) : Type 0 where
  pub coded : Coded w l
  pub placed : Placed b
  pub parts : 3 ≤ part_count b
  pub shaped : Shaped (part_at b 1) (part_at b 2) table

-- the score of a table, and whether it is at or below F of it, for the models of the case b, by the codes w and the numbers l of a lattice
abbrev pub case_score : List ℕ → Lattice → List ℕ → List ℕ → ℕ
case_score w l b table = score_in w l (part_at b 1) (part_at b 2) table

abbrev pub case_post_fixed : List ℕ → Lattice → List ℕ → List ℕ → Bool
case_post_fixed w l b table = post_fixed_in w l (part_at b 1) (part_at b 2) table

abbrev pub range_test : ℕ → ℕ → ℕ → Bool
range_test f m formulas = ltb f formulas && is_model m

-- the first two conditions of value and whole, which the code tests together: both give 13
range_first : (f m formulas : ℕ) (rest : Option Refusal) → cond (ltb f formulas) (cond (is_model m) rest (some OutOfRange)) (some OutOfRange) ≡ cond (range_test f m formulas) rest (some OutOfRange)
range_first f m formulas rest = go (ltb f formulas)
  where
    go : (x : Bool) → cond x (cond (is_model m) rest (some OutOfRange)) (some OutOfRange) ≡ cond (x && is_model m) rest (some OutOfRange)
    go true = refl
    go false = refl

module _ {d : Desk} {z : Sizes} {w : List ℕ} (h : HeldDesk d z w) where
  abbrev bytes : List ℕ
  bytes = take 24576 d.store

  pub readable : (table : List ℕ) → z.states1 * z.states2 ≤ length table → Readable w z.lattice bytes table
  readable table p =
      let q : N1 h.case.holds * N2 h.case.holds ≤ length table = rw h.case.sizes at p in
      record {
        coded = h.case.coded;
        placed = h.case.placed;
        parts = h.case.parts.least;
        shaped =
            rw (h.case.parts.model1, h.case.parts.model2)
            (record { first = h.case.sound.shape1; second = h.case.sound.shape2; same_propositions = h.case.sound.same_propositions; held = q });
      }

  pub held-show : (n : ℕ) (whole : List ℕ) → n ≡ z.states1 * z.states2 → whole ≡ whole_table d → Does Call.Show d (Reply.Shown (take n whole)) d
  held-show n whole e p =
      let m : n ≡ N1 h.case.holds * N2 h.case.holds = rw h.case.sizes at e in
      rw (m, p) (held_shown h)

  -- the whole table is long enough
  pub whole_fits : (whole : List ℕ) → whole ≡ whole_table d → z.states1 * z.states2 ≤ length whole
  whole_fits whole p = rw p (go d.standing.second_whole)
    where
      go : (b : Bool) → z.states1 * z.states2 ≤ length (cond b d.second d.first)
      go true = omega (arith, few h, h.lengths.second_long)
      go false = omega (arith, few h, h.lengths.first_long)

  pub held_score : (whole : List ℕ) (x : ℕ) → whole ≡ whole_table d → x ≡ case_score w z.lattice bytes whole → Does (Call.Ask Question.Score) d (Reply.Element x) d
  held_score whole x p e = rw (rw (h.case.parts.model1, h.case.parts.model2, h.case.ops, p) at e) (held_question h Question.Score refl)

  -- ---- share

  pub some_entries : 0 < z.states1 * z.states2
  some_entries = rw h.case.sizes h.case.sound.entries_some

  pub held_share : (n e : ℕ) (whole : List ℕ) (x : ℕ) → n ≡ z.states1 * z.states2 → ltb e z.lattice.size ≡ true → whole ≡ whole_table d → x ≡ share_in w e whole n → Does (Call.Ask (Question.Share e)) d (Reply.PerCent x) d
  held_share n e whole x m r p f =
      let c = h.case.holds in
      let bytes-are = byte_at (ops c) (model1 c) (model2 c) (operator c) (whole_table d) (shown_table c d) (λ q₁ l q₂ k. refl) h.case.sound.shape2.some in
      let by_bytes : x ≡ share (ops c) (table_size c) (λ i. get_or (whole_table d) i 0) e = rw (m, h.case.ops, p, h.case.sizes) at (f ∙ share_in_is w z.lattice e whole n) in
      let r' : ltb e (lattice_size c) ≡ true = rw h.case.sizes at r in
      rw (by_bytes ∙ share_cong (ops c) (table_size c) _ (entry_at c (shown_table c d)) e bytes-are) (held_question h (Question.Share e) (rw r'))

  pub share_outside : (e : ℕ) → ltb e z.lattice.size ≡ false → Does (Call.Ask (Question.Share e)) d (number_reply OutOfRange) d
  share_outside e r =
      let r' : ltb e (lattice_size h.case.holds) ≡ false = rw h.case.sizes at r in
      held_outside h (Question.Share e) OutOfRange (cond_false _ _ _ r')

  -- ---- judge

  pub held_judge : (n : ℕ) (b : List ℕ) (x : Bool) → n ≡ z.states1 * z.states2 → eqb (length b) n ≡ true → table_obeys n z.lattice.size b ≡ true → x ≡ case_post_fixed w z.lattice bytes b → Does (Call.Ask (Question.Judge b)) d (Reply.Says x) d
  held_judge n b x m l r f =
      let l' : eqb (length b) (N1 h.case.holds * N2 h.case.holds) ≡ true = rw (m, h.case.sizes) at l in
      let r' = rw (m, h.case.sizes) at r in
      rw (rw (h.case.parts.model1, h.case.parts.model2, h.case.ops) at f) (held_question h (Question.Judge b) (rw (l', r')))

  pub judge_long : (n : ℕ) (b : List ℕ) → n ≡ z.states1 * z.states2 → eqb (length b) n ≡ false → Does (Call.Ask (Question.Judge b)) d (number_reply OutOfRange) d
  judge_long n b m l =
      let l' : eqb (length b) (N1 h.case.holds * N2 h.case.holds) ≡ false = rw (m, h.case.sizes) at l in
      held_outside h (Question.Judge b) OutOfRange (rw l')

  pub judge_high : (n : ℕ) (b : List ℕ) → n ≡ z.states1 * z.states2 → eqb (length b) n ≡ true → table_obeys n z.lattice.size b ≡ false → Does (Call.Ask (Question.Judge b)) d (number_reply OutOfRange) d
  judge_high n b m l r =
      let l' : eqb (length b) (N1 h.case.holds * N2 h.case.holds) ≡ true = rw (m, h.case.sizes) at l in
      let r' = rw (m, h.case.sizes) at r in
      held_outside h (Question.Judge b) OutOfRange (rw (l', r'))

  -- ---- value and whole

  formula_of : (f m : ℕ) → range_test f m z.formulas ≡ true → f < z.formulas
  formula_of f m r = ltb-true _ _ (and_l (ltb f z.formulas) (is_model m) r)

  model_of_lem : (f m : ℕ) → range_test f m z.formulas ≡ true → is_model m ≡ true
  model_of_lem f m r = and_r (ltb f z.formulas) (is_model m) r

  model_is : (f m : ℕ) → range_test f m z.formulas ≡ true → model_of (part_at bytes m) ≡ model_in h.case.holds m
  model_is f m r = (model_part h.case m (model_of_lem f m r)).is

  formula_is : (f m : ℕ) → range_test f m z.formulas ≡ true → formula_reading (get_or (part_at bytes m) 1 0) (part_at bytes (3 + f)) ≡ read (formula_in h.case.holds f)
  formula_is f m r = formula_part h.case f m (formula_of f m r) (model_of_lem f m r)

  pub model_over : (f m : ℕ) → range_test f m z.formulas ≡ true → ModelOver w z.lattice (part_at bytes m)
  model_over f m r = let i = model_of_lem f m r in record { coded = h.case.coded; shape = (model_part h.case m i).shape; valued = model_valued h.case m i }

  pub formula_on_model : (f m : ℕ) → range_test f m z.formulas ≡ true → FormulaOnModel bytes f m
  formula_on_model f m r = parts_formula_on_model h.case f m (formula_of f m r) (model_of_lem f m r)

  -- models 1 and 2 have the same propositions
  pub propositions_are : (f m : ℕ) → range_test f m z.formulas ≡ true → get_or (part_at bytes m) 1 0 ≡ z.propositions
  propositions_are f m r = (model_part h.case m (model_of_lem f m r)).propositions ∙ sym (ap (λ (s : Sizes). s.propositions) h.case.sizes)

  pub formula_reads : (f m : ℕ) → range_test f m z.formulas ≡ true → IsFormula z.propositions (part_at bytes (3 + f))
  formula_reads f m r = rw (propositions_are f m r) at (formula_on_model f m r).reads

  pub held_whole : (f m x : ℕ) (i : FormulaFacts) → range_test f m z.formulas ≡ true → WholeValue w z.lattice (part_at bytes m) (part_at bytes (3 + f)) x → FactsIn (get_or (part_at bytes m) 1 0) (part_at bytes (3 + f)) i → Does (Call.Ask (Question.Whole f m)) d (Reply.FormulaValue x i) d
  held_whole f m x i r v p =
      let r' : range_test f m (length h.case.holds.formulas) ≡ true = rw h.case.sizes at r in
      rw (rw (model_is f m r, h.case.ops) at (v.is (formula_in h.case.holds f) (formula_is f m r)), p.is (formula_in h.case.holds f) (formula_is f m r))
      (held_question h (Question.Whole f m) (range_first f m _ none ∙ cond_true _ _ _ r'))

  pub whole_outside : (f m : ℕ) → range_test f m z.formulas ≡ false → Does (Call.Ask (Question.Whole f m)) d (number_reply OutOfRange) d
  whole_outside f m r =
      let r' : range_test f m (length h.case.holds.formulas) ≡ false = rw h.case.sizes at r in
      held_outside h (Question.Whole f m) OutOfRange (range_first f m _ none ∙ cond_false _ _ _ r')

  states_are : (f m : ℕ) → range_test f m z.formulas ≡ true → get_or (part_at bytes m) 0 0 ≡ (model_in h.case.holds m).states
  states_are f m r = ap (λ (M : Model ℕ). M.states) (model_is f m r)

  pub held_value : (f m q x : ℕ) (i : FormulaFacts) → range_test f m z.formulas ≡ true → ltb q (get_or (part_at bytes m) 0 0) ≡ true → ValueAt w z.lattice (part_at bytes m) (part_at bytes (3 + f)) q x → FactsIn (get_or (part_at bytes m) 1 0) (part_at bytes (3 + f)) i → Does (Call.Ask (Question.Value f m q)) d (Reply.FormulaValue x i) d
  held_value f m q x i r s v p =
      let r' : range_test f m (length h.case.holds.formulas) ≡ true = rw h.case.sizes at r in
      let s' : ltb q (model_in h.case.holds m).states ≡ true = rw (states_are f m r) at s in
      rw (rw (model_is f m r, h.case.ops) at (v.is (formula_in h.case.holds f) (formula_is f m r)), p.is (formula_in h.case.holds f) (formula_is f m r))
      (held_question h (Question.Value f m q) (range_first f m _ _ ∙ cond_true _ _ _ r' ∙ cond_true _ _ _ s'))

  pub value_outside : (f m q : ℕ) → range_test f m z.formulas ≡ false → Does (Call.Ask (Question.Value f m q)) d (number_reply OutOfRange) d
  value_outside f m q r =
      let r' : range_test f m (length h.case.holds.formulas) ≡ false = rw h.case.sizes at r in
      held_outside h (Question.Value f m q) OutOfRange (range_first f m _ _ ∙ cond_false _ _ _ r')

  pub value_state : (f m q : ℕ) → range_test f m z.formulas ≡ true → ltb q (get_or (part_at bytes m) 0 0) ≡ false → Does (Call.Ask (Question.Value f m q)) d (number_reply OutOfRange) d
  value_state f m q r s =
      let r' : range_test f m (length h.case.holds.formulas) ≡ true = rw h.case.sizes at r in
      let s' : ltb q (model_in h.case.holds m).states ≡ false = rw (states_are f m r) at s in
      held_outside h (Question.Value f m q) OutOfRange (range_first f m _ _ ∙ cond_true _ _ _ r' ∙ cond_false _ _ _ s')
