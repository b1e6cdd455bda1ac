-- A question reads a table only at the pairs of states. Rests on View, Refused, Perform, theory's Rounds, Share and Loop, rounds' Round.
-- The definitions are in specs/ViewLaws.
--   conditions_cong, answer_cong: a question has the same first refusal, and the same answer, from two of them
--   pairs_at, entries_cong: the entries of a table in the order of its bytes; bytes_table: these bytes hold them
use Rattle.std.specs.Prelude.{ℕ, zero, suc, ◌+◌, ◌*◌, ◌/◌, ◌%◌, ◌<◌, ◌≡◌, refl, Bool, List, [], ◌∷◌}
use Rattle.std.proofs.Common.{ap, ap₂, ◌∙◌, mod-lt, div-lt_iff_lt-mul, mod-eq_of_lt, add-zero, arith}
use Rattle.std.proofs.Math.Nat.{mul-add-div_right, mul-add-mod_self_right, div-eq_of_lt}
use Rattle.theory.specs.Simulation.{AllPairs, SameTable}
use Rattle.theory.proofs.Rounds.{score_cong}
use Rattle.theory.proofs.Share.{share_cong}
use Rattle.theory.specs.Loop.{tab_at}
use Rattle.casefile.specs.Reading.{Content}
use Rattle.rounds.specs.Round.{cell_lt}
use Rattle.desk.specs.Desk.{Question, Reply, reply_alone}
use Rattle.desk.specs.Case.{ops, model1, model2, N1, N2, table_size, entry_at, table_bytes}
use Rattle.desk.specs.View.{View, given_table}
use Rattle.desk.specs.Refused.{Condition, condition_test, first_refusal}
use Rattle.desk.specs.Perform.{answer_to}
use Rattle.desk.specs.ViewLaws.{SameView}

-- what holds at every pair of states holds of each entry, in the order of the bytes
pub pairs_at : (c : Content) (P : ℕ → ℕ → Type 0) → AllPairs (ops c) (model1 c) (model2 c) P → (i : ℕ) → i < table_size c → P (i / N2 c) (i % N2 c)
pairs_at c P h i l = let p : 0 < N2 c = not_none (N2 c) l in h (i / N2 c) ((div-lt_iff_lt-mul p).1 l) (i % N2 c) (mod-lt i p)
  where
    not_none : (n : ℕ) → i < N1 c * n → 0 < n
    not_none zero l = omega arith
    not_none (suc n) l = omega arith

pub entries_cong : (c : Content) (S U : ℕ → ℕ → ℕ) → SameTable (ops c) (model1 c) (model2 c) S U → (i : ℕ) → i < table_size c → entry_at c S i ≡ entry_at c U i
entries_cong c S U h = pairs_at c (λ q₁ q₂. S q₁ q₂ ≡ U q₁ q₂) h

-- the bytes of a table hold its entries
pub bytes_table : (c : Content) (S : ℕ → ℕ → ℕ) → SameTable (ops c) (model1 c) (model2 c) (given_table c (table_bytes c S)) S
bytes_table c S q₁ l q₂ m =
    tab_at (entry_at c S) (table_size c) (q₁ * N2 c + q₂) (cell_lt (N1 c) (N2 c) q₁ q₂ l m)
    ∙ ap₂ S (mul-add-div_right (omega arith) q₁ q₂ ∙ ap (λ (k : ℕ). q₁ + k) (div-eq_of_lt m) ∙ add-zero q₁) (mul-add-mod_self_right q₁ (N2 c) q₂ ∙ mod-eq_of_lt m)

-- two views that differ in their tables alone: condition by condition, and question by question
module _ (c : Content) (round : ℕ) (settled : Bool) (S U : ℕ → ℕ → ℕ) (h : SameTable (ops c) (model1 c) (model2 c) S U) where
  abbrev view_with : (ℕ → ℕ → ℕ) → View
  view_with W = record { holds = c; round = round; settled = settled; shown = W }

  test_same : (x : Condition) → condition_test x (view_with S) ≡ condition_test x (view_with U)
  test_same (Condition.Formula f) = refl
  test_same (Condition.Model m) = refl
  test_same (Condition.State m q) = refl
  test_same (Condition.Element e) = refl
  test_same (Condition.TableLength t) = refl
  test_same (Condition.TableBytes t) = refl
  test_same (Condition.Fits needed b) = refl

  answer_same : (q : Question) → answer_to q (view_with S) ≡ answer_to q (view_with U)
  answer_same Question.Score = ap (λ (e : ℕ). reply_alone (Reply.Element e)) (score_cong (ops c) (model1 c) (model2 c) h)
  answer_same (Question.Value f m q) = refl
  answer_same (Question.Whole f m) = refl
  answer_same (Question.Share l) = ap (λ (e : ℕ). reply_alone (Reply.PerCent e)) (share_cong (ops c) (table_size c) (entry_at c S) (entry_at c U) l (entries_cong c S U h))
  answer_same (Question.Judge t) = refl
  answer_same (Question.Write b) = refl

module _ (v w : View) (e : SameView v w) where
  test_cong : (x : Condition) → condition_test x v ≡ condition_test x w
  test_cong x = rw (e.holds_same, e.round_same, e.settled_same) (test_same w.holds w.round w.settled v.shown w.shown e.entries_same x)

  pub conditions_cong : (xs : List Condition) → first_refusal xs v ≡ first_refusal xs w
  conditions_cong [] = refl
  conditions_cong (x ∷ xs) = rw (test_cong x, conditions_cong xs)

  pub answer_cong : (q : Question) → answer_to q v ≡ answer_to q w
  answer_cong q = rw (e.holds_same, e.round_same, e.settled_same) (answer_same w.holds w.round w.settled v.shown w.shown e.entries_same q)
