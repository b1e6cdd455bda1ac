-- Rounds by the rest of a round: after an accepted opening, n of these calls give round n, and T of them settle the desk.
-- Rests on RoundLeftLaws, Stands, Next and Settling.
-- The definitions are in specs/RoundLeftRounds.
use Prim.Native.Nat.{ℕ, zero, suc, ◌+◌, ◌≤◌, ◌<◌, min}
use Rattle.std.specs.Prelude.{◌≡◌, refl, Bool, true, false, ◌↔◌, List, ltb, replicate}
use Rattle.std.proofs.Common.{sym, ap, ◌∙◌, ltb-true, ltb-false}
use Rattle.std.proofs.Math.Path.{subst}
use Rattle.std.proofs.Math.Logic.{⊎_elim}
use Rattle.std.proofs.Math.Nat.{min-eq_left, min-eq_right}
use native.Mathlib.Omega.{arith}
use Rattle.casefile.specs.Reading.{Content, content}
use Rattle.desk.specs.Desk.{Desk, Call}
use Rattle.desk.specs.Case.{IsT}
use Rattle.desk.specs.Refused.{examined}
use Rattle.desk.specs.Moved.{opened}
use Rattle.desk.specs.Perform.{After, perform, moved}
use Rattle.desk.proofs.RefusedLaws.{perform_accepted}
use Rattle.desk.specs.Stands.{Stands, DeskBeforeT, DeskAtT}
use Rattle.desk.proofs.Next.{at, stands_unspoiled}
use Rattle.desk.proofs.Settling.{steps_stand, opened-stands}
use Rattle.desk.specs.RoundLeft.{steps_left, finished, Act, run_acts}
use Rattle.desk.specs.RoundLeftLaws.{ended_from}
use Rattle.desk.proofs.RoundLeftLaws.{rest-finished, settled_finished}
use Rattle.desk.specs.RoundLeftRounds.{after_rests}

-- ---- the smaller of n and T, while it is below T, and once it is T

under : (n T : ℕ) → min n T < T → min n T + 1 ≡ min (n + 1) T
under n T l = go (ltb n T) refl
  where
    go : (t : Bool) → ltb n T ≡ t → min n T + 1 ≡ min (n + 1) T
    go true e = let p = ltb-true n T e in let a : min n T ≡ n = min-eq_left (omega arith) in let b : min (n + 1) T ≡ n + 1 = min-eq_left (omega arith) in omega (arith, a, b)
    go false e = let a : min n T ≡ T = min-eq_right (ltb-false n T e) in absurd (omega (arith, a, l))

reached : (n T : ℕ) → (min n T ≡ T) ↔ (T ≤ n)
reached n T = (λ e. go e (ltb n T) refl, λ l. min-eq_right l)
  where
    go : min n T ≡ T → (t : Bool) → ltb n T ≡ t → T ≤ n
    go e true q = let p = ltb-true n T q in let a : min n T ≡ n = min-eq_left (omega arith) in absurd (omega (arith, a, e, p))
    go e false q = ltb-false n T q

-- ---- the desk at the beginning of the round that follows round n, or at T

record Between (c : Content) (T n : ℕ) (d : Desk) : Type 0 where
  steps : ℕ
  stands : Stands c T steps d
  row_0 : d.standing.row ≡ 0
  round_is : d.standing.round ≡ min n T

module _ {c : Content} {T : ℕ} where
  between_more : (n : ℕ) (d : Desk) → Between c T n d → Between c T (n + 1) (finished d).desk
  unfolding ended_from
  between_more n d w = ⊎_elim before_T done w.stands.progress.place
    where
      next : Stands c T (w.steps + steps_left d) (finished d).desk
      next = steps_stand (steps_left d) w.steps d w.stands

      before_T : DeskBeforeT c T w.steps d → Between c T (n + 1) (finished d).desk
      before_T g =
          let e = rest-finished c d (stands_unspoiled w.stands) g.unsettled in
          record {
            steps = w.steps + steps_left d;
            stands = next;
            row_0 = ap (λ (a : After). a.desk.standing.row) e;
            round_is = ap (λ (a : After). a.desk.standing.round) e ∙ ap (λ (r : ℕ). r + 1) w.round_is ∙ under n T (omega (arith, w.round_is, g.below));
          }

      done : DeskAtT c T w.steps d → Between c T (n + 1) (finished d).desk
      done x =
          let e = settled_finished c d (stands_unspoiled w.stands) x.is_settled in
          let l = (reached n T).0 (sym w.round_is ∙ x.at_T) in
          record {
            steps = w.steps + steps_left d;
            stands = next;
            row_0 = ap (λ (a : After). a.desk.standing.row) e ∙ w.row_0;
            round_is = ap (λ (a : After). a.desk.standing.round) e ∙ x.at_T ∙ sym ((reached (n + 1) T).1 (omega arith));
          }

  between_all : (m n : ℕ) (d : Desk) → Between c T n d → Between c T (n + m) (run_acts (replicate m Act.Rest) d)
  unfolding run_acts
  between_all zero n d w = let z : n ≡ n + 0 = omega arith in subst (λ (k : ℕ). Between c T k d) z w
  between_all (suc m) n d w =
      let z : n + 1 + m ≡ n + suc m = omega arith in
      subst (λ (k : ℕ). Between c T k (run_acts (replicate m Act.Rest) (finished d).desk)) z (between_all m (n + 1) (finished d).desk (between_more n d w))

-- the round is the smaller of n and T, and the desk is settled exactly when n is at least T
pub rests_settle : (b : List ℕ) (d : Desk) (c : Content) (T : ℕ) → examined (Call.Open b) d ≡ content c → IsT c T → (n : ℕ)
    → ((after_rests b n d).standing.round ≡ min n T) × (((after_rests b n d).standing.settled ≡ true) ↔ (T ≤ n))
unfolding run_acts moved opened
rests_settle b d c T e t n =
    let z : 0 + n ≡ n = omega arith in
    let p = perform_accepted (Call.Open b) d c e in
    let start : Between c T 0 (perform (Call.Open b) d).desk = record {
      steps = 0;
      stands = opened-stands b d c T e t;
      row_0 = ap (λ (a : After). a.desk.standing.row) p;
      round_is = ap (λ (a : After). a.desk.standing.round) p ∙ sym (min-eq_left (omega arith));
    } in
    let w = between_all n 0 (perform (Call.Open b) d).desk start in
    let r = w.round_is ∙ ap (λ (k : ℕ). min k T) z in
    let x = at w.stands in
    (r, (λ s. (reached n T).0 (sym r ∙ x.round_is ∙ x.settled_exactly.0 s), λ l. x.settled_exactly.1 (sym x.round_is ∙ r ∙ (reached n T).1 l)))
