-- What a desk that stands after s accepted steps is: its standing, the call that comes next, and what it answers.
-- Rests on Stands, Position, RefusedLaws, ViewLaws, Case, Refused, Perform, Run, theory's Rounds and RoundLowerings, rounds' Round.
--   at: round, next row, settled and lowerings after s accepted steps
--   stands_unspoiled, never_11_or_12: neither 11 nor 12 applies to the next call
--   ranges_are, next_answer, next_desk: it is accepted where its own conditions hold, and works on c
--   shows, show_is: the table shown; answered_from: every question is answered from the view after s accepted steps
use Rattle.std.specs.Prelude.{ℕ, ◌+◌, ◌≤◌, ◌<◌, ◌≡◌, Bool, true, false, cond, ◌⊎◌, List, eqb, length, get_or, take}
use Rattle.std.proofs.Math.Path.{refl, ap}
use Rattle.std.proofs.Common.{sym, ◌∙◌, subst, inl, inr, ⊎_elim, arith, ltb-true, eq-eqb}
use Rattle.std.proofs.Math.Option.{Option, none, some}
use Rattle.theory.specs.Simulation.{SameTable, AtMostTable}
use Rattle.theory.proofs.Rounds.{T_at_most-size}
use Rattle.theory.proofs.RoundLowerings.{lowerings_most-size}
use Rattle.theory.specs.TestLaws.{false_true}
use Rattle.refusal.specs.declared.Refusal.{Refusal}
use Rattle.refusal.specs.Number.{number_of}
use Rattle.casefile.specs.Reading.{Content, content, refused, store_reading}
use Rattle.casefile.proofs.Accepted.{store_reads}
use Rattle.casefile.specs.Content.{ContentSound}
use Rattle.casefile.specs.Numbered.{CaseNumber}
use Rattle.casefile.proofs.Numbered.{case-number}
use Rattle.rounds.specs.Table.{changed_below}
use Rattle.rounds.specs.Round.{changed_none, shown_bytes}
use Rattle.desk.specs.Desk.{Desk, Question, Call, Reply, Answered, whole_table, is_open}
use Rattle.desk.specs.Case.{ops, lattice_size, model1, model2, table_size, operator, round_in, limit, table_bytes}
use Rattle.desk.specs.View.{view_of, shown_table}
use Rattle.desk.specs.Refused.{Rules, conditions, call_conditions, first_refusal, no_refusal, after_rules, examined, is_content, accepted}
use Rattle.desk.specs.Perform.{perform, show_answer, answer, moved, lent_after}
use Rattle.desk.specs.Run.{round_after, view_after, AnsweredFrom}
use Rattle.desk.specs.RefusedLaws.{Unspoiled}
use Rattle.desk.proofs.RefusedLaws.{opens_or_not, open_long, in_store, perform_refused, perform_accepted}
use Rattle.desk.specs.RulesLaws.{Long}
use Rattle.desk.proofs.RulesLaws.{long_not_short, range_exactly, broken_exactly, refusal_one}
use Rattle.desk.specs.ViewLaws.{SameView}
use Rattle.desk.proofs.ViewLaws.{conditions_cong, answer_cong}
use Rattle.desk.specs.Stands.{DeskBeforeT, DeskAtT, Stands}
use Rattle.desk.proofs.Stands.{known-sound, sizes_most}
use Rattle.desk.specs.Position.{Position}
use Rattle.desk.proofs.Position.{position}

-- a number equals itself, as a test
pub same_number : (a : ℕ) → eqb a a ≡ true
same_number a = eq-eqb a a refl

no_refusal_lem : (x : Option Refusal) → no_refusal x ≡ true → x ≡ none
no_refusal_lem none e = refl
no_refusal_lem (some r) e = absurd (false_true refl e)

-- what holds of the whole table and of the other holds of the first and of the second
of_either : (P : List ℕ → Type 0) (w : Bool) (f g : List ℕ) → P (cond w g f) → P (cond w f g) → P f × P g
of_either P true f g p q = (q, p)
of_either P false f g p q = (p, q)

module _ {c : Content} {T s : ℕ} {d : Desk} (w : Stands c T s d) where
  content_is_sound : ContentSound c
  content_is_sound = known-sound w.known

  pub at : Position c T s d.standing
  at = position content_is_sound.shape1.some w.progress

  -- ---- 'Neither 11 nor 12 applies to the call that comes next, whichever it is'

  long : Long d
  long =
      let l = of_either (λ t. 4096 ≤ length t) d.standing.second_whole d.first d.second w.progress.whole_long w.progress.other_long in
      record { store_long = w.store_long; first_long = l.0; second_long = l.1 }

  store_reads_as : store_reading d.store ≡ content c
  store_reads_as = rw w.store_is (store_reads w.known.case c w.known.reads w.rest)

  below : ((i : ℕ) → i < table_size c → get_or d.first i 0 < lattice_size c) × ((i : ℕ) → i < table_size c → get_or d.second i 0 < lattice_size c)
  below =
      of_either (λ t. (i : ℕ) → i < table_size c → get_or t i 0 < lattice_size c) d.standing.second_whole d.first d.second
      (λ i l. ltb-true _ _ (w.progress.whole_elements i l))
      (λ i l. ltb-true _ _ (w.progress.other_elements i l))

  T_limit : T ≤ limit c + 1
  T_limit = T_at_most-size content_is_sound.laws (model1 c) (model2 c) T w.known.is_T

  lowerings-limit : d.standing.lowerings ≤ limit c
  lowerings-limit = rw w.progress.lowerings_are (lowerings_most-size content_is_sound.laws (model1 c) (model2 c) eqb same_number d.standing.round)

  before_T_rules : DeskBeforeT c T s d → Rules d c
  before_T_rules g =
      record {
        reads = store_reads_as;
        size1 = w.sizes.0;
        size2 = w.sizes.1;
        row_below = g.row_below;
        nothing_yet = λ z. g.so_far.changed_is ∙ ap (changed_below (model1 c) (model2 c) (operator c) (shown_table c d)) z ∙ changed_none (model1 c) (model2 c) (operator c) (shown_table c d);
        unsettled_most = λ z. omega (arith, g.below, T_limit);
        settled_least = λ z. absurd (false_true g.unsettled z);
        settled_most = λ z. absurd (false_true g.unsettled z);
        settled_row = λ z. absurd (false_true g.unsettled z);
        lowerings_most = lowerings-limit;
        first_below_lem = below.0;
        second_below = below.1;
      }

  at_T_rules : DeskAtT c T s d → Rules d c
  at_T_rules x =
      record {
        reads = store_reads_as;
        size1 = w.sizes.0;
        size2 = w.sizes.1;
        row_below = omega (arith, x.row_0, content_is_sound.shape1.some);
        nothing_yet = λ z. x.unchanged;
        unsettled_most = λ z. absurd (false_true z x.is_settled);
        settled_least = λ z. omega (arith, x.at_T, w.known.is_T.above0);
        settled_most = λ z. omega (arith, x.at_T, T_limit);
        settled_row = λ z. x.row_0;
        lowerings_most = lowerings-limit;
        first_below_lem = below.0;
        second_below = below.1;
      }

  pub stands_unspoiled : Unspoiled d c
  stands_unspoiled = record { long = long_not_short d long; rules = ⊎_elim before_T_rules at_T_rules w.progress.place }

  -- the refusals that are left: those of a case that is to be opened, and those after 12
  pub next_refusal : (k : Call) (r : Refusal) → examined k d ≡ refused r → CaseNumber r ⊎ (12 < number_of r)
  next_refusal k r q = ⊎_elim opens others (opens_or_not k)
    where
      opens : (a : List ℕ) × (k ≡ Call.Open a) → CaseNumber r ⊎ (12 < number_of r)
      opens o = inl (case-number o.0 r (sym (open_long o.0 d stands_unspoiled.long) ∙ ap (λ (x : Call). examined x d) (sym o.1) ∙ q))

      late : (t : Option Refusal) → first_refusal (call_conditions k) (view_of c d) ≡ t → after_rules c t ≡ refused r → 12 < number_of r
      late none e x = absurd (let z : ◌≡◌ {A = ℕ} 0 1 = cc in omega arith)
      late (some f) e x = let p : f ≡ r = cc in (refusal_one (view_of c d) (call_conditions k) r (e ∙ ap some p)).1

      others : is_open k ≡ false → CaseNumber r ⊎ (12 < number_of r)
      others o = inr (late (first_refusal (call_conditions k) (view_of c d)) refl (sym (in_store k d c o stands_unspoiled) ∙ q))

  pub never_11_or_12 : (k : Call) (r : Refusal) → examined k d ≡ refused r → 10 < number_of r → number_of r < 13 → ⊥
  never_11_or_12 k r q l m = ⊎_elim (λ (n : CaseNumber r). omega (arith, n.1)) (λ (n : 12 < number_of r). omega arith) (next_refusal k r q)

  -- ---- every call but open is accepted exactly when its own conditions hold, and works on c

  pub ranges_are : (k : Call) → is_open k ≡ false → accepted k d ≡ no_refusal (first_refusal (call_conditions k) (view_of c d))
  unfolding accepted
  ranges_are k o = ap is_content (in_store k d c o stands_unspoiled) ∙ go (first_refusal (call_conditions k) (view_of c d))
    where
      go : (t : Option Refusal) → is_content (after_rules c t) ≡ no_refusal t
      go none = refl
      go (some r) = refl

  pub works_on : (k : Call) → is_open k ≡ false → accepted k d ≡ true → examined k d ≡ content c
  works_on k o a = in_store k d c o stands_unspoiled ∙ go (first_refusal (call_conditions k) (view_of c d)) (sym (ranges_are k o) ∙ a)
    where
      go : (t : Option Refusal) → no_refusal t ≡ true → after_rules c t ≡ content c
      go none e = refl
      go (some r) e = absurd (false_true refl e)

  pub next_answer : (k : Call) → is_open k ≡ false → accepted k d ≡ true → (perform k d).reply ≡ answer k c d
  next_answer k o a = ap (λ x. x.reply) (perform_accepted k d c (works_on k o a))

  pub next_desk : (k : Call) → is_open k ≡ false → accepted k d ≡ true → (perform k d).desk ≡ moved k c d
  next_desk k o a = ap (λ x. x.desk) (perform_accepted k d c (works_on k o a))

  -- ---- the table shown is round r

  abbrev r : ℕ
  r = round_after c T s

  pub shows : SameTable (ops c) (model1 c) (model2 c) (shown_table c d) (round_in c r)
  shows = subst (λ (x : ℕ). SameTable (ops c) (model1 c) (model2 c) (shown_table c d) (round_in c x)) at.round_is w.progress.shown

  pub below_shown : (U : ℕ → ℕ → ℕ) → AtMostTable (ops c) (model1 c) (model2 c) U (round_in c r) → AtMostTable (ops c) (model1 c) (model2 c) U (shown_table c d)
  below_shown U h q₁ l q₂ m = rw (shows q₁ l q₂ m) (h q₁ l q₂ m)

  pub shown_below : (U : ℕ → ℕ → ℕ) → AtMostTable (ops c) (model1 c) (model2 c) (round_in c r) U → AtMostTable (ops c) (model1 c) (model2 c) (shown_table c d) U
  shown_below U h q₁ l q₂ m = rw (shows q₁ l q₂ m) (h q₁ l q₂ m)

  -- ---- 'show then answers the table of round r'

  whole_entries : table_size c ≤ length (whole_table d)
  whole_entries = omega (arith, sizes_most w.known, w.progress.whole_long)

  pub show_is : show_answer d ≡ Reply.Shown (table_bytes c (round_in c r))
  unfolding answer
  show_is =
      let e : answer Call.Show c d ≡ Reply.Shown (take (table_size c) (whole_table d)) = refl in
      next_answer Call.Show refl (ranges_are Call.Show refl) ∙ e ∙ ap Reply.Shown (shown_bytes (ops c) (model1 c) (model2 c) (operator c) (whole_table d) (round_in c r) shows content_is_sound.shape2.some whole_entries)

  -- ---- every question is answered from the view after s accepted steps

  views_same : SameView (view_of c d) (view_after c T s)
  views_same = record { holds_same = refl; round_same = at.round_is; settled_same = at.settled_is; entries_same = shows }

  same_refusal : (q : Question) → first_refusal (conditions q) (view_of c d) ≡ first_refusal (conditions q) (view_after c T s)
  same_refusal q = conditions_cong (view_of c d) (view_after c T s) views_same (conditions q)

  examined_next : (q : Question) (x : Option Refusal) → first_refusal (conditions q) (view_after c T s) ≡ x → examined (Call.Ask q) d ≡ after_rules c x
  examined_next q x e = in_store (Call.Ask q) d c refl stands_unspoiled ∙ ap (after_rules c) (same_refusal q ∙ e)

  pub answered_from : (q : Question) → AnsweredFrom q d (view_after c T s)
  unfolding answer moved lent_after
  answered_from q =
      let v = view_after c T s in
      let a : accepted (Call.Ask q) d ≡ no_refusal (first_refusal (conditions q) v) = ranges_are (Call.Ask q) refl ∙ ap no_refusal (same_refusal q) in
      record {
        accepts = (λ e. (range_exactly q v).0 (no_refusal_lem _ (sym a ∙ e)), λ h. a ∙ ap no_refusal ((range_exactly q v).1 h));
        answers = λ h. perform_accepted (Call.Ask q) d c (examined_next q none ((range_exactly q v).1 h)) ∙ ap (λ (x : Answered). record { reply = x.reply; desk = d; lent = x.lent }) (answer_cong (view_of c d) v views_same q);
        refuses = λ r h. perform_refused (Call.Ask q) d r (examined_next q (some r) ((broken_exactly v r (conditions q)).1 h));
      }
