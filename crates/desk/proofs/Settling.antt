-- 'steps until settled': after an accepted opening, T·N1 accepted steps settle the desk. Rests on Run, Listed, Demand3Holds and Next.
--   accepted_steps_settle: in a list of any calls; steps_settle: T·N1 or more steps after an opening, which are all accepted
--   opened-stands, steps_stand: the invariant of demand 3 after an accepted opening, and after n steps more
use Rattle.std.specs.Prelude.{ℕ, zero, suc, ◌+◌, ◌*◌, ◌≤◌, ◌≡◌, refl, true, List, ◌∷◌, length, replicate}
use Rattle.std.proofs.Common.{sym, ap, subst, le-div_iff_mul-le, arith}
use Rattle.std.proofs.Math.Nat.{min-eq_right}
use Rattle.casefile.specs.Reading.{Content, content}
use Rattle.casefile.proofs.Content.{content_sound}
use Rattle.desk.specs.Desk.{Desk, Call}
use Rattle.desk.specs.Case.{N1, IsT}
use Rattle.desk.specs.Refused.{examined}
use Rattle.desk.specs.Perform.{perform, moved}
use Rattle.desk.specs.Run.{run, LastOpening, answers_since, round_after}
use Rattle.desk.proofs.RefusedLaws.{perform_accepted, open_accepted}
use Rattle.desk.specs.Stands.{Stands, Known}
use Rattle.desk.proofs.Stands.{some_states, opening_starts}
use Rattle.desk.proofs.Next.{at, ranges_are}
use Rattle.desk.proofs.Listed.{step_stands}
use Rattle.desk.proofs.Demand3Holds.{listed}

pub accepted_steps_settle : (ks : List Call) (d : Desk) (l : LastOpening ks d) (T : ℕ) → IsT l.holds T → T * N1 l.holds ≤ length (answers_since l) → (run ks d).standing.settled ≡ true
accepted_steps_settle ks d l T t h =
    let c = l.holds in
    let some = (content_sound l.case c (open_accepted l.case (run l.before d) c l.opens).reads).shape1.some in
    let r : round_after c T (length (answers_since l)) ≡ T = min-eq_right ((le-div_iff_mul-le some).1 h) in
    (listed ks d l T t).settled_exactly.1 r

pub steps_stand : {c : Content} {T : ℕ} (n s : ℕ) (d : Desk) → Stands c T s d → Stands c T (s + n) (run (replicate n Call.Step) d)
unfolding run
steps_stand {c} {T} zero s d w = let z : s ≡ s + 0 = omega arith in subst (λ (k : ℕ). Stands c T k d) z w
steps_stand {c} {T} (suc n) s d w =
    let z : s + 1 + n ≡ s + suc n = omega arith in
    subst (λ (k : ℕ). Stands c T k (run (replicate n Call.Step) (perform Call.Step d).desk)) z (steps_stand n (s + 1) (perform Call.Step d).desk (step_stands Call.Step s d w (ranges_are w Call.Step refl)).0)

pub opened-stands : (b : List ℕ) (d : Desk) (c : Content) (T : ℕ) → examined (Call.Open b) d ≡ content c → IsT c T → Stands c T 0 (perform (Call.Open b) d).desk
unfolding moved
opened-stands b d c T e t =
    let o = open_accepted b d c e in
    let k : Known c T = record { case = b; reads = o.reads; is_T = t } in
    subst (Stands c T 0) (sym (ap (λ x. x.desk) (perform_accepted (Call.Open b) d c e))) (opening_starts k d o.long)

pub steps_settle : (b : List ℕ) (d : Desk) (c : Content) (T : ℕ) → examined (Call.Open b) d ≡ content c → IsT c T → (n : ℕ) → T * N1 c ≤ n → (run (Call.Open b ∷ replicate n Call.Step) d).standing.settled ≡ true
unfolding run
steps_settle b d c T e t n h =
    let start = opened-stands b d c T e t in
    let r : round_after c T (0 + n) ≡ T = min-eq_right ((le-div_iff_mul-le (some_states start.known)).1 (omega arith)) in
    (at (steps_stand n 0 (perform (Call.Open b) d).desk start)).settled_exactly.1 r
