-- AX and EX along a row that is a list of its own, as the code reads it, by those along a row in a list of rows. Rests on Successors.
--   row_in_list: the row in a list, after the count of its states; next_in_row: AX and EX from it, by next_listed
use Prim.Native.Nat.{ℕ, suc, ◌+◌}
use Rattle.std.specs.Prelude.{◌≡◌, Bool, not, List, ◌∷◌, length, get_or}
use Rattle.std.proofs.Math.Path.{refl, sym, ap}
use Rattle.std.proofs.Common.{◌∙◌, arith}
use Rattle.theory.specs.Loop.{fold, fold_cong}
use Rattle.theory.specs.Part.{model_of}
use Rattle.theory.specs.Simulation.{count}
use Rattle.valuer_maps.specs.Code.{join_or_meet_code, first_code, step_code, next_code}
use Rattle.valuer_maps.specs.Successors.{leads_to, RowListed, RowOf, next_listed}

-- in a list that has the row, after the count of its states
after_count : (row : List ℕ) (i : ℕ) → get_or row i 0 ≡ get_or (length row ∷ row) (0 + 1 + i) 0
after_count row i = let e : 0 + 1 + i ≡ suc i = omega arith in rw e refl

pub row_in_list : {p : ℕ → Bool} {n : ℕ} {row : List ℕ} → RowOf p n row → RowListed p n 0 (length row ∷ row)
row_in_list {p} {n} {row} h =
    record {
      count_is = h.count_is;
      listed = λ r l e. sym (after_count row (count r p)) ∙ h.listed r l e;
      below = λ i l. rw (← after_count row i) (h.below i (omega (arith, l, h.count_is)));
    }

-- AX and EX from it
module _ (w : List ℕ) (top : ℕ) (m x : List ℕ) (q : ℕ) {row : List ℕ} (h : RowOf (leads_to w top m q) (get_or m 0 0) row) where
  pub next_in_row : (all : Bool) → fold (join_or_meet_code (not all)) (first_code top all) (λ i. step_code all w ((model_of m).transition q (get_or row i 0)) (get_or x (get_or row i 0) 0)) (length row) ≡ next_code w top m all x q
  next_in_row all =
      fold_cong _ _ _ _ _ (λ i l. ap (λ (r : ℕ). step_code all w ((model_of m).transition q r) (get_or x r 0)) (after_count row i))
      ∙ next_listed w top m x q (row_in_list h) all
