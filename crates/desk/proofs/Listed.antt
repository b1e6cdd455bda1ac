-- Lists of calls, and the invariant of demand 3 after them. Rests on Run, RefusedLaws, Stands, Stepping, Next.
-- The definitions are in specs/Listed.
--   last_opening, opening_T: a list with an accepted opening in it has a last one, whose case has a T
--   run_append: one list after another; call_unchanged, reading_unchanged: a refused call, and one that neither opens nor steps, leaves the desk as it was
--   step_stands: an accepted step moves the invariant on, and answers what it says
use Rattle.std.specs.Prelude.{ℕ, zero, suc, ◌+◌, ◌<◌, ◌≡◌, Bool, cond, ◌&&◌, length, get_or}
use Rattle.std.proofs.Math.Path.{refl, subst}
use Rattle.std.proofs.Common.{sym, ap, ◌∙◌, not-suc-le-zero}
use Rattle.std.proofs.Math.Bool.{true, false}
use mathlib.Core.List.{List, [], ◌∷◌, ◌++◌}
use native.Mathlib.Omega.{arith}
use Rattle.theory.specs.Simulation.{indicator}
use Rattle.theory.specs.Height.{longest_chain}
use Rattle.theory.proofs.Rounds.{T_exists}
use Rattle.theory.specs.TestLaws.{false_true}
use Rattle.casefile.specs.Reading.{Content, content}
use Rattle.casefile.proofs.Content.{content_sound}
use Rattle.desk.specs.Desk.{Desk, Call, Reply, is_open, is_step}
use Rattle.desk.specs.Case.{ops, model1, model2, IsT}
use Rattle.desk.specs.Refused.{examined, accepted}
use Rattle.desk.specs.Moved.{stepped}
use Rattle.desk.specs.Perform.{perform, answer, moved}
use Rattle.desk.specs.Run.{run, openings, step_answers, LastOpening, answer_after}
use Rattle.desk.proofs.RefusedLaws.{perform_refused, perform_accepted, accepted_content, refused_refusal, open_accepted}
use Rattle.desk.specs.Stands.{Stands}
use Rattle.desk.proofs.Stepping.{step_moves}
use Rattle.desk.proofs.Next.{at, ranges_are, next_answer, next_desk}
use Rattle.desk.specs.Listed.{Since}

-- ---- lists

pub run_append : (xs ys : List Call) (d : Desk) → run (xs ++ ys) d ≡ run ys (run xs d)
unfolding run
run_append [] ys d = refl
run_append (k ∷ xs) ys d = run_append xs ys (perform k d).desk

-- an accepted opening
opening_of : (k : Call) (d : Desk) → (is_open k && accepted k d) ≡ true → (b : List ℕ) × (c : Content) × (k ≡ Call.Open b) × (examined (Call.Open b) d ≡ content c)
opening_of (Call.Open b) d e = let w = accepted_content (Call.Open b) d e in (b, w.0, refl, w.1)
opening_of Call.Step d e = absurd (false_true refl e)
opening_of Call.Show d e = absurd (false_true refl e)
opening_of (Call.Ask q) d e = absurd (false_true refl e)

-- an accepted step
step_of : (k : Call) (d : Desk) → (is_step k && accepted k d) ≡ true → k ≡ Call.Step
step_of Call.Step d e = refl
step_of (Call.Open b) d e = absurd (false_true refl e)
step_of Call.Show d e = absurd (false_true refl e)
step_of (Call.Ask q) d e = absurd (false_true refl e)

-- every list with an accepted opening in it has a last one
pub last_opening : (ks : List Call) (d : Desk) → 0 < openings ks d → LastOpening ks d
unfolding openings run
last_opening [] d h = absurd (not-suc-le-zero h)
last_opening (k ∷ ks) d h = go (openings ks (perform k d).desk) refl (last_opening ks (perform k d).desk) (is_open k && accepted k d) refl h
  where
    go : (n : ℕ) → openings ks (perform k d).desk ≡ n → (0 < n → LastOpening ks (perform k d).desk) → (t : Bool) → (is_open k && accepted k d) ≡ t → 0 < indicator t + n → LastOpening (k ∷ ks) d
    go (suc n) p later t q l =
        let w = later (omega arith) in
        record { before = k ∷ w.before; case = w.case; after = w.after; list = ap (λ (x : List Call). k ∷ x) w.list; holds = w.holds; opens = w.opens; last = w.last }
    go zero p later true q l =
        let w = opening_of k d q in
        record { before = []; case = w.0; after = ks; list = ap (λ (x : Call). x ∷ ks) w.2; holds = w.1; opens = w.3; last = ap (λ (x : Call). openings ks (perform x d).desk) (sym w.2) ∙ p }
    go zero p later false q l = absurd (omega arith)

-- the case of an accepted opening has a T
pub opening_T : {ks : List Call} {d : Desk} (l : LastOpening ks d) → (T : ℕ) × IsT l.holds T
opening_T {ks} {d} l =
    let c = l.holds in
    let L = (content_sound l.case c (open_accepted l.case (run l.before d) c l.opens).reads).laws in
    let n = longest_chain (ops c) (λ a. refl) in
    let t = T_exists L (model1 c) (model2 c) n.0 n.2 in
    (t.0, t.2)

-- ---- a call that neither opens nor steps, and every refused call, leaves the desk as it was

moved_unchanged : (k : Call) (c : Content) (d : Desk) → is_open k ≡ false → is_step k ≡ false → moved k c d ≡ d
unfolding moved
moved_unchanged (Call.Open b) c d o s = absurd (false_true o refl)
moved_unchanged Call.Step c d o s = absurd (false_true s refl)
moved_unchanged Call.Show c d o s = refl
moved_unchanged (Call.Ask q) c d o s = refl

pub call_unchanged : (k : Call) (d : Desk) → (is_open k && accepted k d) ≡ false → (is_step k && accepted k d) ≡ false → (perform k d).desk ≡ d
call_unchanged k d o s = go (accepted k d) refl (is_open k) refl (is_step k) refl o s
  where
    go : (a : Bool) → accepted k d ≡ a → (x : Bool) → is_open k ≡ x → (y : Bool) → is_step k ≡ y → (x && a) ≡ false → (y && a) ≡ false → (perform k d).desk ≡ d
    go false a x p y q o s = let w = refused_refusal k d a in ap (λ z. z.desk) (perform_refused k d w.0 w.1)
    go true a true p y q o s = absurd (false_true o refl)
    go true a false p true q o s = absurd (false_true s refl)
    go true a false p false q o s = let w = accepted_content k d a in ap (λ z. z.desk) (perform_accepted k d w.0 w.1) ∙ moved_unchanged k w.0 d p q

-- 'The last six calls alter no buffer and no standing'; 'A new call on a desk .., unless it opens, alters neither desk nor standing' (request 105).
-- Accepted or refused: standing, store and both tables are as they were.
pub reading_unchanged : (k : Call) (d : Desk) → is_open k ≡ false → is_step k ≡ false → (perform k d).desk ≡ d
reading_unchanged k d o s = call_unchanged k d (ap (λ (x : Bool). x && accepted k d) o) (ap (λ (x : Bool). x && accepted k d) s)

-- ---- after s accepted steps, a list of calls with no accepted opening in it

module _ {c : Content} {T : ℕ} where
  pub step_stands : (k : Call) (s : ℕ) (d : Desk) → Stands c T s d → (is_step k && accepted k d) ≡ true → Stands c T (s + 1) (perform k d).desk × ((perform k d).reply ≡ answer_after c T (s + 1))
  unfolding moved answer
  step_stands k s d w q =
      let p : k ≡ Call.Step = step_of k d q in
      let a : accepted Call.Step d ≡ true = ranges_are w Call.Step refl in
      let v : Stands c T (s + 1) (stepped c d) = step_moves w.known w in
      let z : answer Call.Step c d ≡ answer_after c T (s + 1) = (at v).answer_is in
      subst (λ (x : Call). Stands c T (s + 1) (perform x d).desk × ((perform x d).reply ≡ answer_after c T (s + 1))) (sym p) (
        subst (Stands c T (s + 1)) (sym (next_desk w Call.Step refl a)) v,
        next_answer w Call.Step refl a ∙ z,
      )

  answers_more : (s : ℕ) (a : Reply) (answers : List Reply) (d : Desk) → a ≡ answer_after c T (s + 1) → Since c T (s + 1) answers d → Since c T s (a ∷ answers) d
  answers_more s a answers d p w = record { stands = subst (λ (n : ℕ). Stands c T n d) q w.stands; each = go }
    where
      q : s + 1 + length answers ≡ s + suc (length answers)
      q = omega arith

      go : (i : ℕ) → i < suc (length answers) → get_or (a ∷ answers) i Reply.Opened ≡ answer_after c T (s + suc i)
      go zero l = p
      go (suc i) l = let z : s + 1 + suc i ≡ s + suc (suc i) = omega arith in w.each i (omega arith) ∙ ap (answer_after c T) z

  pub since : (ks : List Call) (s : ℕ) (d : Desk) → Stands c T s d → openings ks d ≡ 0 → Since c T s (step_answers ks d) (run ks d)
  unfolding run openings step_answers
  since [] s d w o = let z : s ≡ s + 0 = omega arith in record { stands = subst (λ (n : ℕ). Stands c T n d) z w; each = λ i l. absurd (not-suc-le-zero l) }
  since (k ∷ ks) s d w o = go (is_open k && accepted k d) refl (is_step k && accepted k d) refl (since ks) o
    where
      go : (x : Bool) → (is_open k && accepted k d) ≡ x → (t : Bool) → (is_step k && accepted k d) ≡ t
          → ((n : ℕ) (f : Desk) → Stands c T n f → openings ks f ≡ 0 → Since c T n (step_answers ks f) (run ks f))
          → indicator x + openings ks (perform k d).desk ≡ 0
          → Since c T s (cond t ((perform k d).reply ∷ step_answers ks (perform k d).desk) (step_answers ks (perform k d).desk)) (run ks (perform k d).desk)
      go true x t q later o = absurd (omega arith)
      go false x true q later o =
          let v = step_stands k s d w q in
          answers_more s (perform k d).reply (step_answers ks (perform k d).desk) (run ks (perform k d).desk) v.1 (later (s + 1) (perform k d).desk v.0 (omega arith))
      go false x false q later o = later s (perform k d).desk (subst (Stands c T s) (sym (call_unchanged k d x q)) w) (omega arith)
