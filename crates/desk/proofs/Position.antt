-- What the standing is after s accepted steps, from the invariant of demand 3. Rests on Stands, Case, Moved and Run.
-- The definitions are in specs/Position.
use Rattle.std.specs.Prelude.{ℕ, ◌+◌, ◌*◌, ◌/◌, ◌%◌, ◌<◌, min, ◌≡◌, List}
use Rattle.std.proofs.Common.{sym, ap, ◌∙◌, ⊎_elim, mod-eq_of_lt, le-div_iff_mul-le, arith, eq-eqb, ne_eqb}
use Rattle.std.proofs.Math.Nat.{mul-add-div_right, mul-add-mod_self_right, div-eq_of_lt, min-eq_left, min-eq_right}
use Rattle.theory.specs.TestLaws.{false_true}
use Rattle.casefile.specs.Reading.{Content}
use Rattle.desk.specs.Desk.{Standing}
use Rattle.desk.specs.Case.{N1, lowerings_in}
use Rattle.desk.specs.Run.{round_after}
use Rattle.desk.specs.Stands.{BeforeT, AtT, Progress}
use Rattle.desk.specs.Position.{Position}

-- ---- s is round · N1 + row

div_of : (n round row s : ℕ) → row < n → s ≡ round * n + row → s / n ≡ round
div_of n round row s l q = let p : 0 < n = omega arith in rw (q, mul-add-div_right p round row, div-eq_of_lt l) (omega arith)

mod_of : (n round row s : ℕ) → row < n → s ≡ round * n + row → s % n ≡ row
mod_of n round row s l q = rw (q, mul-add-mod_self_right round n row) (mod-eq_of_lt l)

-- where the lowerings are those of the rounds up to the standing's
module _ {c : Content} {T s : ℕ} {x : Standing} (total : x.lowerings ≡ lowerings_in c x.round) where
  before_T_position : {whole other : List ℕ} → BeforeT c T s x whole other → Position c T s x
  before_T_position g =
      let d : s / N1 c ≡ x.round = div_of (N1 c) x.round x.row s g.row_below g.count in
      let m : s % N1 c ≡ x.row = mod_of (N1 c) x.round x.row s g.row_below g.count in
      let b : min (s / N1 c) T ≡ x.round = rw d (min-eq_left (omega (arith, g.below))) in
      let p : round_after c T s ≡ x.round = b in
      let n : ¬ (round_after c T s ≡ T) = λ z. omega (arith, p, z, g.below) in
      record {
        round_is = sym p;
        row_below_T = λ l. sym m;
        row_at_T = λ z. absurd (n z);
        settled_exactly = (λ z. absurd (false_true g.unsettled z), λ z. absurd (n z));
        settled_is = g.unsettled ∙ sym (ne_eqb _ _ n);
        lowerings_are = total ∙ ap (lowerings_in c) (sym p);
        answer_is = rw (g.unsettled, ne_eqb _ _ n, p, m, total);
      }

  at_T_position : 0 < N1 c → AtT c T s x → Position c T s x
  at_T_position states e =
      let p : round_after c T s ≡ T = min-eq_right ((le-div_iff_mul-le states).1 e.enough) in
      record {
        round_is = e.at_T ∙ sym p;
        row_below_T = λ l. absurd (omega (arith, p, l));
        row_at_T = λ z. e.row_0;
        settled_exactly = (λ z. p, λ z. e.is_settled);
        settled_is = e.is_settled ∙ sym (eq-eqb _ _ p);
        lowerings_are = total ∙ ap (lowerings_in c) (e.at_T ∙ sym p);
        answer_is = rw (e.is_settled, eq-eqb _ _ p, total, e.at_T, p);
      }

pub position : {c : Content} {T s : ℕ} {x : Standing} {whole other : List ℕ} → 0 < N1 c → Progress c T s x whole other → Position c T s x
position states h = ⊎_elim (before_T_position h.lowerings_are) (at_T_position h.lowerings_are states) h.place
