-- Demand 3 holds. Rests on Demand3, Listed, Next, Covered, Judged, WrittenBack, Stands, RefusedLaws, and theory's Rounds, RoundLowerings, Height and Sharp.
--   demand3: every list of calls with an accepted opening in it has the demand; listed: the claim holds for whatever last accepted opening and T
--   claimed: the claim from the invariant; same_shown: show's answer leaves no choice
--   ranges, asked_next; value_next, whole_next, score_next, share_next, judge_next: what it says of the questions one by one
--   T_most_sharp: another limit of T
use Rattle.std.specs.Prelude.{ℕ, suc, ◌+◌, ◌-◌, ◌≤◌, ◌<◌, ◌≡◌, refl, true, false, ◌↔◌, List, ◌∷◌, eqb, length, get_or, take}
use Rattle.std.proofs.Common.{sym, ap, ◌∙◌, subst, inl, arith}
use Rattle.theory.specs.Value.{value_at, whole_value}
use Rattle.theory.specs.Simulation.{score, share}
use Rattle.theory.specs.Height.{longest_chain}
use Rattle.theory.proofs.Rounds.{T_at_most, settled_greatest, below-rounds, fixed_below}
use Rattle.theory.proofs.RoundLowerings.{lowerings_most}
use Rattle.theory.proofs.Sharp.{T_sharp}
use Rattle.refusal.specs.declared.Refusal.TheVariants.{ShortDesk, SpoiledDesk, ShortBuffer}
use Rattle.formula.specs.Answer.{facts_of}
use Rattle.casefile.specs.Reading.{Content}
use Rattle.casefile.proofs.Accepted.{gapless_most}
use Rattle.casefile.proofs.Content.{content_sound}
use Rattle.desk.specs.Desk.{Desk, Question, Call, Reply}
use Rattle.desk.specs.Case.{ops, model1, model2, table_size, model_in, formula_in, operator, round_in, IsT, entry_at, table_bytes}
use Rattle.desk.specs.Refused.{InRange, accepted}
use Rattle.desk.specs.Moved.{opened}
use Rattle.desk.specs.View.{View, given_table}
use Rattle.desk.specs.Perform.{perform, asked, show_answer, answer_to, moved}
use Rattle.desk.specs.Run.{run, openings, LastOpening, answers_since, round_after, answer_after, view_after}
use Rattle.desk.specs.RefusedLaws.{OpenAccepted}
use Rattle.desk.proofs.RefusedLaws.{perform_accepted, open_long, open_accepted, answered_reply}
use Rattle.desk.proofs.RulesLaws.{spoiled_exactly}
use Rattle.desk.specs.Stands.{Stands}
use Rattle.desk.proofs.Stands.{known-sound, opening_starts}
use Rattle.desk.proofs.Next.{same_number, at, stands_unspoiled, never_11_or_12, ranges_are, shows, below_shown, show_is, answered_from}
use Rattle.desk.proofs.Covered.{shown_by_round, shown_at_T, scored_by_round, scored_at_T, promised_by_facts}
use Rattle.desk.specs.Judged.{PostFixed}
use Rattle.desk.proofs.Judged.{judge-yes, judge-no, passes_exactly, passed_le, passed_bounds, simulation_passes, round-passes-exactly}
use Rattle.desk.proofs.WrittenBack.{written_opens}
use Rattle.desk.specs.Listed.{Since}
use Rattle.desk.proofs.Listed.{run_append, last_opening, opening_T, since}
use Rattle.desk.specs.Demand3.{SaysYes, Claim, Demand3}

-- show's answer leaves no choice of its bytes
pub same_shown : (x : Reply) (a b : List ℕ) → x ≡ Reply.Shown a → x ≡ Reply.Shown b → a ≡ b
same_shown x a b p q = cc

module _ {c : Content} {T : ℕ} where
  pub claimed : (answers : List Reply) (d : Desk) → Stands c T (length answers) d → ((i : ℕ) → i < length answers → get_or answers i Reply.Opened ≡ answer_after c T (suc i)) → Claim c T answers d
  claimed answers d w each =
      let sound = known-sound w.known in
      let L = sound.laws in
      let v = view_after c T (length answers) in
      let n = answered_from w in
      let h = longest_chain (ops c) (λ a. refl) in
      let p = at w in
      record {
        round_is = p.round_is;
        row_below_T = p.row_below_T;
        row_at_T = p.row_at_T;
        settled_exactly = p.settled_exactly;
        store_holds = (stands_unspoiled w).rules.reads;
        shown_is = shows w;
        above = λ G g. below_shown w G (below-rounds L (model1 c) (model2 c) G (fixed_below L (model1 c) (model2 c) (operator c) G g.is_fixed) (round_after c T (length answers)));
        bounded_by_round = shown_by_round answers d w;
        bounded_at_T = shown_at_T answers d w;
        score_by_round = scored_by_round answers d w;
        score_at_T = scored_at_T answers d w;
        covered = promised_by_facts answers d w _ (shown_by_round answers d w) (shown_at_T answers d w);
        score_covered = promised_by_facts answers d w _ (scored_by_round answers d w) (scored_at_T answers d w);
        passes_exactly = passes_exactly v n;
        passed_le = passed_le v n sound;
        passed_bounds = passed_bounds v n sound;
        simulation_passes = simulation_passes v n sound;
        shown_passes_exactly = λ t e. let z : table_bytes c (round_in c v.round) ≡ t = same_shown (show_answer d) _ t (show_is w) e in rw z at (round-passes-exactly v n sound T w.known.is_T v.round);
        written_back = λ b l. (n (Question.Write b)).answers (l, tt);
        case_most = gapless_most (take 24576 d.store) c (stands_unspoiled w).rules.reads;
        write_refused = λ b l. (n (Question.Write b)).refuses ShortBuffer (inl (λ h. omega (arith, h, l), refl));
        written_opens = written_opens d c (stands_unspoiled w).rules.reads;
        T_greatest = settled_greatest L (model1 c) (model2 c) T w.known.is_T;
        h_exists = (h.0, h.2);
        T_most = λ n l. T_at_most L (model1 c) (model2 c) n l T w.known.is_T;
        answered = λ l. let z : suc (length answers - 1) ≡ length answers = omega arith in each (length answers - 1) (omega arith) ∙ ap (answer_after c T) z;
        lowerings_are = p.lowerings_are;
        lowerings_most = λ m l. rw w.progress.lowerings_are (lowerings_most L (model1 c) (model2 c) eqb same_number m l d.standing.round);
        not_short = (stands_unspoiled w).long;
        not_spoiled = (spoiled_exactly d).1 (c, (stands_unspoiled w).rules);
        not_11 = λ k q. never_11_or_12 w k ShortDesk q (omega arith) (omega arith);
        not_12 = λ k q. never_11_or_12 w k SpoiledDesk q (omega arith) (omega arith);
        open_next = λ x. open_long x d (stands_unspoiled w).long;
        step_next = ranges_are w Call.Step refl;
        show_next = show_is w;
        question_next = answered_from w;
      }

-- ---- the questions one by one

module _ {c : Content} {T : ℕ} {answers : List Reply} {d : Desk} (w : Claim c T answers d) where
  abbrev view : View
  view = view_after c T (length answers)

  pub ranges : (q : Question) → (accepted (Call.Ask q) d ≡ true) ↔ InRange q view
  ranges q = (w.question_next q).accepts

  pub asked_next : (q : Question) → accepted (Call.Ask q) d ≡ true → asked q d ≡ (answer_to q view).reply
  asked_next q a = answered_reply (w.question_next q) a

  pub value_next : (f m q : ℕ) → accepted (Call.Ask (Question.Value f m q)) d ≡ true
      → asked (Question.Value f m q) d ≡ Reply.FormulaValue (value_at (ops c) (model_in c m) (formula_in c f) q) (facts_of (formula_in c f))
  value_next f m q a = asked_next (Question.Value f m q) a

  pub whole_next : (f m : ℕ) → accepted (Call.Ask (Question.Whole f m)) d ≡ true
      → asked (Question.Whole f m) d ≡ Reply.FormulaValue (whole_value (ops c) (model_in c m) (formula_in c f)) (facts_of (formula_in c f))
  whole_next f m a = asked_next (Question.Whole f m) a

  pub score_next : asked Question.Score d ≡ Reply.Element (score (ops c) (model1 c) (model2 c) (round_in c (round_after c T (length answers))))
  score_next = asked_next Question.Score ((ranges Question.Score).1 tt)

  pub share_next : (e : ℕ) → accepted (Call.Ask (Question.Share e)) d ≡ true
      → asked (Question.Share e) d ≡ Reply.PerCent (share (ops c) (table_size c) (entry_at c (round_in c (round_after c T (length answers)))) e)
  share_next e a = asked_next (Question.Share e) a

  pub judge_next : (t : List ℕ) → accepted (Call.Ask (Question.Judge t)) d ≡ true
      → (SaysYes d t ↔ PostFixed c (given_table c t)) × ((asked (Question.Judge t) d ≡ Reply.Says false) ↔ ¬ (PostFixed c (given_table c t)))
  judge_next t a = (judge-yes view w.question_next t a, judge-no view w.question_next t a)

-- for every list of calls, every desk, whatever last accepted opening there is, and whatever is T
pub listed : (ks : List Call) (d : Desk) (l : LastOpening ks d) (T : ℕ) → IsT l.holds T → Claim l.holds T (answers_since l) (run ks d)
unfolding run moved
listed ks d l T is_T = subst (Claim c T (answers_since l)) (sym same) (claimed (answers_since l) (run l.after start) (subst (λ (n : ℕ). Stands c T n (run l.after start)) none after.stands) each)
  where
    c : Content
    c = l.holds

    start : Desk
    start = (perform (Call.Open l.case) (run l.before d)).desk

    opening : OpenAccepted l.case (run l.before d) c
    opening = open_accepted l.case (run l.before d) c l.opens

    is-opened : start ≡ opened c (run l.before d)
    is-opened = ap (λ x. x.desk) (perform_accepted (Call.Open l.case) (run l.before d) c l.opens)

    after : Since c T 0 (answers_since l) (run l.after start)
    after = since l.after 0 start (subst (Stands c T 0) (sym is-opened) (opening_starts (record { case = l.case; reads = opening.reads; is_T = is_T }) (run l.before d) opening.long)) l.last

    none : 0 + length (answers_since l) ≡ length (answers_since l)
    none = omega arith

    each : (i : ℕ) → i < length (answers_since l) → get_or (answers_since l) i Reply.Opened ≡ answer_after c T (suc i)
    each i m = let z : 0 + suc i ≡ suc i = omega arith in after.each i m ∙ ap (answer_after c T) z

    same : run ks d ≡ run l.after start
    same = ap (λ (x : List Call). run x d) l.list ∙ run_append l.before (Call.Open l.case ∷ l.after) d

-- and there are a last opening and a T
pub demand3 : (ks : List Call) (d : Desk) → 0 < openings ks d → Demand3 ks d
demand3 ks d h =
    let l = last_opening ks d h in
    let t = opening_T l in
    record { opening = l; T = t.0; is_T = t.1; claim = listed ks d l t.0 t.1 }

-- Beyond the demand: whatever the lattice's longest chain, T is at most N1·N2 + 1.
pub T_most_sharp : (ks : List Call) (d : Desk) (l : LastOpening ks d) (T : ℕ) → IsT l.holds T → T ≤ table_size l.holds + 1
T_most_sharp ks d l T is_T =
    let c = l.holds in
    T_sharp (content_sound l.case c (open_accepted l.case (run l.before d) c l.opens).reads).laws (model1 c) (model2 c) T is_T
