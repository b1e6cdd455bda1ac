-- What a call knows of a desk that is held, how the examination gets its answer, and what a call does after it.
-- Rests on Answer, casefile's Caller, and desk's RefusedLaws.
--   Stored, ModelsOf, HeldDesk, when_held: what is known of a desk that is held, of its store and of the models in it
--   held_shown, held_question, held_outside, Refuses, refused_call: what a call does that is answered, refused for its conditions, or by the examination
--   case_few, few: N1·N2 is at most 4,096; entries_held: a table has room for the entries of the models; table_obeys_lem, first_obey: the test of a table's first bytes, place by place and as a part
--   short-examined, unread_examined, spoiled-examined, held-examined: the four answers of the examination
--   show-examined: the examination of show is that of step
use Rattle.std.specs.Prelude.{ℕ, ◌+◌, ◌*◌, ◌≤◌, ◌≡◌, Bool, true, false, cond, List, ltb, length, take, get_or, Result, Ok, Err}
use Rattle.std.proofs.Math.Path.{refl, ap}
use Rattle.std.proofs.Common.{sym, ◌∙◌, zero-add, length-take-le, arith}
use Rattle.std.proofs.Math.Option.{none, some}
use Rattle.std.specs.List.{list_all}
use Rattle.std.proofs.lemmas.List.{get_or-take}
use Rattle.theory.proofs.Parts.{list_all_below}
use Rattle.theory.specs.Test.{all_below}
use Rattle.theory.specs.TestLaws.{all_cong}
use Rattle.theory.specs.Part.{ModelShape}
use Rattle.casefile.specs.Directory.{part_count, part_at}
use Rattle.casefile.specs.Conditions.{Placed}
use Rattle.refusal.specs.declared.Refusal.{Refusal}
use Rattle.refusal.specs.declared.Refusal.TheVariants.{ShortDesk, SpoiledDesk}
use Rattle.casefile.specs.declared.Sizes.{Sizes}
use Rattle.casefile.specs.Reading.{CaseReading, refused, content, store_reading}
use Rattle.casefile.specs.Answer.{sizes_of}
use Rattle.casefile.proofs.Accepted.{refused_content}
use Rattle.casefile.specs.Caller.{AcceptedCase}
use Rattle.casefile.proofs.Caller.{accepted_as}
use Rattle.desk.specs.Desk.{Desk, Question, Call, Reply, whole_table, is_open, lent_buffers, call_lent_buffers}
use Rattle.desk.specs.Case.{table_size}
use Rattle.desk.specs.View.{View, view_of}
use Rattle.desk.specs.Refused.{short, table_obeys, rules_obeyed, obeys_for, spoiled, conditions, first_refusal, after_rules, of_store, examined, refused_reply, number_reply}
use Rattle.desk.specs.Perform.{answer_to, answer, moved, lent_after}
use Rattle.desk.specs.RefusedLaws.{Unspoiled, Outcome, too_short_lem, broken, outside, inside}
use Rattle.desk.proofs.RefusedLaws.{is_short, is_spoiled, in_store, outcome, other_accepted, perform_refused, perform_accepted}
use Rattle.desk.specs.RulesLaws.{Long}
use Rattle.desk.proofs.RulesLaws.{long-enough, rules_out}
use Rattle.desk_check.specs.Answer.{examined_answer, DeskExamined, Does, DoesWith}

-- ---- after the answer that the desk is held with the sizes z, and the codes w

-- what is known of the store: the case in it, and its two models
pub record Stored (s : List ℕ) : Type 0 where
  pub long : 24576 ≤ length s
  pub placed : Placed (take 24576 s)
  pub parts : 3 ≤ part_count (take 24576 s)
  pub first : ModelShape (part_at (take 24576 s) 1)
  pub second : ModelShape (part_at (take 24576 s) 2)
  pub same_propositions : get_or (part_at (take 24576 s) 1) 1 0 ≡ get_or (part_at (take 24576 s) 2) 1 0

-- these are its two models
pub record ModelsOf (s m1 m2 : List ℕ) : Type 0 where
  pub first : m1 ≡ part_at (take 24576 s) 1
  pub second : m2 ≡ part_at (take 24576 s) 2

stored : {s : List ℕ} {z : Sizes} {w : List ℕ} → 24576 ≤ length s → AcceptedCase (take 24576 s) z w → Stored s
stored l a =
    record {
      long = l;
      placed = a.placed;
      parts = a.parts.least;
      first = rw a.parts.model1 a.sound.shape1;
      second = rw a.parts.model2 a.sound.shape2;
      same_propositions = rw (a.parts.model1, a.parts.model2) a.sound.same_propositions;
    }

pub record HeldDesk (d : Desk) (z : Sizes) (w : List ℕ) : Type 0 where
  pub case : AcceptedCase (take 24576 d.store) z w
  pub unspoiled : Unspoiled d case.holds
  pub lengths : Long d
  pub store : Stored d.store

pub when_held : (d : Desk) (r : Result Sizes Refusal) (z : Sizes) (w : List ℕ) → DeskExamined d r w → r ≡ Ok z → HeldDesk d z w
unfolding accepted_as
when_held d r z w a k = go (examined Call.Step d) refl (sym k ∙ a.answer)
  where
    go : (x : CaseReading) → examined Call.Step d ≡ x → Ok z ≡ examined_answer x → HeldDesk d z w
    go (refused f) e h = absurd (let z : ◌≡◌ {A = ℕ} 0 1 = cc in omega arith)
    go (content c) e h =
        let q : z ≡ sizes_of c = cc in
        let u = (other_accepted Call.Step d c refl e).held in
        let k = accepted_as (take 24576 d.store) c z w u.rules.reads q (a.codes c e) in
        let l = long-enough d u.long in
        record { case = k; unspoiled = u; lengths = l; store = stored l.store_long k }

-- a table has at most 4,096 entries
pub case_few : {b : List ℕ} {z : Sizes} {w : List ℕ} → AcceptedCase b z w → z.states1 * z.states2 ≤ 4096
case_few a = rw a.sizes a.sound.entries_most

pub few : {d : Desk} {z : Sizes} {w : List ℕ} → HeldDesk d z w → z.states1 * z.states2 ≤ 4096
few h = case_few h.case

-- a table's bytes are tested from place 0 on
pub table_obeys_lem : (table : List ℕ) (m count n : ℕ) (r : Bool) → r ≡ all_below m (λ i. ltb (get_or table (0 + i) 0) n) → m ≡ count → r ≡ table_obeys count n table
table_obeys_lem table m count n r e q = e ∙ all_cong m _ _ (λ i l. ap (λ (j : ℕ). ltb (get_or table j 0) n) (zero-add i)) ∙ ap (λ (k : ℕ). table_obeys k n table) q

-- the test of a table's first bytes
pub first_obey : (table : List ℕ) (m n : ℕ) → m ≤ length table → list_all (λ x. ltb x n) (take m table) ≡ table_obeys m n table
first_obey table m n l =
    list_all_below (λ x. ltb x n) (take m table) ∙ rw (length-take-le m table l) (all_cong m _ _ (λ i k. rw (get_or-take m table i 0 k)))

-- show and a question on a desk that is held: answered, or refused for the first of its conditions that is broken
module _ {d : Desk} {z : Sizes} {w : List ℕ} (h : HeldDesk d z w) where
  -- a table has room for the entries of the models
  pub entries_held : {m1 m2 : List ℕ} (table : List ℕ) → ModelsOf d.store m1 m2 → z.states1 * z.states2 ≤ length table → get_or m1 0 0 * get_or m2 0 0 ≤ length table
  entries_held table m p = rw (m.first, m.second, h.case.parts.model1, h.case.parts.model2) (rw h.case.sizes at p)

  abbrev pub held_view : View
  held_view = view_of h.case.holds d

  pub held_shown : Does Call.Show d (Reply.Shown (take (table_size h.case.holds) (whole_table d))) d
  unfolding answer moved lent_after
  held_shown = perform_accepted Call.Show d h.case.holds (in_store Call.Show d h.case.holds refl h.unspoiled)

  pub held_question : (q : Question) → first_refusal (conditions q) held_view ≡ none → DoesWith (answer_to q held_view).lent (Call.Ask q) d (answer_to q held_view).reply d
  unfolding answer moved lent_after
  held_question q i = perform_accepted (Call.Ask q) d h.case.holds (in_store (Call.Ask q) d h.case.holds refl h.unspoiled ∙ ap (after_rules h.case.holds) i)

  pub held_outside : (q : Question) (r : Refusal) → first_refusal (conditions q) held_view ≡ some r → DoesWith (lent_buffers q) (Call.Ask q) d (number_reply r) d
  held_outside q r i = perform_refused (Call.Ask q) d r (in_store (Call.Ask q) d h.case.holds refl h.unspoiled ∙ ap (after_rules h.case.holds) i)

-- ---- after the answer that it is refused, every call but open is refused so

abbrev pub Refuses : Desk → Refusal → Type 0
Refuses d f = (k : Call) → is_open k ≡ false → DoesWith (call_lent_buffers k) k d (refused_reply k f) d

pub refused_call : (k : Call) (d : Desk) (r : Result Sizes Refusal) (f : Refusal) (w : List ℕ) → is_open k ≡ false → DeskExamined d r w → r ≡ Err f → DoesWith (call_lent_buffers k) k d (refused_reply k f) d
refused_call k d r f w o a q = perform_refused k d f (go (outcome Call.Step d refl))
  where
    is : examined_answer (examined Call.Step d) ≡ Err f
    is = sym a.answer ∙ q

    same : (g : Refusal) → examined Call.Step d ≡ refused g → refused g ≡ refused f
    same g e = let u : Err g ≡ Err f = sym (ap examined_answer e) ∙ is in let v : g ≡ f = cc in ap refused v

    go : Outcome Call.Step d → examined k d ≡ refused f
    go (too_short_lem s e) = is_short k d s ∙ same ShortDesk e
    go (broken s n e) = go-broken (outcome k d o)
      where
        go-broken : Outcome k d → examined k d ≡ refused f
        go-broken (too_short_lem x p) = absurd (let z : ◌≡◌ {A = Bool} true false = sym x ∙ s in let y : ◌≡◌ {A = ℕ} 0 1 = cc in omega arith)
        go-broken (broken x m p) = p ∙ same SpoiledDesk e
        go-broken (outside c u g i p) = absurd (n c u.rules)
        go-broken (inside c u i p) = absurd (n c u.rules)
    go (outside c u g i e) = absurd (let z : ◌≡◌ {A = ℕ} 0 1 = cc in omega arith)
    go (inside c u i e) =
        let v : Ok (sizes_of c) ≡ Err f = sym (ap examined_answer e) ∙ is in
        absurd (let z : ◌≡◌ {A = ℕ} 0 1 = cc in omega arith)

-- ---- the answers of the examination

refused_examined : (d : Desk) (f : Refusal) (w : List ℕ) → examined Call.Step d ≡ refused f → DeskExamined d (Err f) w
refused_examined d f w e = record { answer = sym (ap examined_answer e); codes = λ c g. absurd (refused_content (sym e ∙ g)) }

pub short-examined : (d : Desk) (w : List ℕ) → short d ≡ true → DeskExamined d (Err ShortDesk) w
short-examined d w s = refused_examined d ShortDesk w (is_short Call.Step d s)

pub unread_examined : (d : Desk) (f : Refusal) (w : List ℕ) → short d ≡ false → store_reading d.store ≡ refused f → DeskExamined d (Err SpoiledDesk) w
unfolding spoiled
unread_examined d f w s e = refused_examined d SpoiledDesk w (is_spoiled Call.Step d refl s (rw e))

module _ (d : Desk) (z : Sizes) (w : List ℕ) (s : short d ≡ false) (a : AcceptedCase (take 24576 d.store) z w) where
  abbrev obeyed : Bool
  obeyed = rules_obeyed z.states1 z.states2 z.lattice.size d

  rules_same : obeyed ≡ obeys_for a.holds d
  rules_same = rw a.sizes

  pub spoiled-examined : (x : Bool) → x ≡ obeyed → x ≡ false → DeskExamined d (Err SpoiledDesk) w
  unfolding spoiled
  spoiled-examined x q f = refused_examined d SpoiledDesk w (is_spoiled Call.Step d refl s (rw (a.reads, ← rules_same, ← q, f)))

  pub held-examined : (x : Bool) → x ≡ obeyed → x ≡ true → DeskExamined d (Ok z) w
  held-examined x q f =
      let e = in_store Call.Step d a.holds refl (record { long = s; rules = rules_out d a.holds a.reads (sym rules_same ∙ sym q ∙ f) }) in
      record {
        answer = ap Ok a.sizes ∙ sym (ap examined_answer e);
        codes = λ c g. let q : a.holds ≡ c = cc in rw (← q) a.codes;
      }

-- show has no tests of its own, as step has none
pub show-examined : (d : Desk) → examined Call.Show d ≡ examined Call.Step d
unfolding examined
show-examined d = ap (λ (x : CaseReading). cond (short d) (refused ShortDesk) x) (go (store_reading d.store))
  where
    go : (x : CaseReading) → of_store Call.Show d x ≡ of_store Call.Step d x
    go (refused r) = refl
    go (content c) = refl
