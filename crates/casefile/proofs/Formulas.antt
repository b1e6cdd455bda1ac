-- For the search of a formula part that is refused: the answer is that of the parts still to come. Rests on Answer.
-- The definitions are in specs/Formulas.
use Rattle.std.specs.Prelude.{ℕ, zero, suc, ◌+◌, ◌-◌, ◌≤◌, ◌<◌, ◌≡◌, refl, true, false, List, length, Ok, Err}
use Rattle.std.proofs.Common.{sym, ap, ap₂, ◌∙◌, le_refl, arith}
use Rattle.std.specs.List.{range_with_len, AllWithin, HoldsAt}
use Rattle.std.proofs.lemmas.List.FromFn.{length-range_with_len, get_or-range_with_len}
use Rattle.theory.specs.TestLaws.{false_true}
use Rattle.refusal.specs.declared.Refusal.TheVariants.{BadFormula}
use Rattle.formula.specs.Bytes.{FormulaReading, formula_reading}
use Rattle.casefile.specs.Directory.{part_at, parts_from}
use Rattle.casefile.specs.Reading.{FormulasReading, read_one, formulas_reading, refused_at, read}
use Rattle.casefile.specs.Steps.{is_read, formulas_answer}
use Rattle.casefile.specs.Formulas.{answer_from, FormulasUpto}

read_one_lem : (i : ℕ) (x : FormulaReading) (y : FormulasReading) → is_read x ≡ true → formulas_answer (read_one i x y) ≡ formulas_answer y
read_one_lem i FormulaReading.refused y t = absurd (false_true refl t)
read_one_lem i (FormulaReading.read φ) (refused_at j) t = refl
read_one_lem i (FormulaReading.read φ) (read φs) t = refl

refused_one : (i : ℕ) (x : FormulaReading) (y : FormulasReading) → is_read x ≡ false → formulas_answer (read_one i x y) ≡ Err (BadFormula i)
refused_one i FormulaReading.refused y t = refl
refused_one i (FormulaReading.read φ) y t = absurd (false_true t refl)

-- the answer, taken apart at part i
answer_one : (b : List ℕ) (k i n : ℕ) → 0 < n → answer_from b k i n ≡ formulas_answer (read_one i (formula_reading k (part_at b i)) (formulas_reading k (suc i) (parts_from b (suc i) (n - 1))))
unfolding parts_from formulas_reading
answer_one b k i n l = let e : n ≡ suc (n - 1) = omega arith in ap (answer_from b k i) e

pub formulas_none : (b : List ℕ) (k n : ℕ) → FormulasUpto b k n 0
formulas_none b k n = let e : n - 0 ≡ n = omega arith in record { same = rw e refl }

pub formulas_more : (b : List ℕ) (k n f : ℕ) → FormulasUpto b k n f → f < n → is_read (formula_reading k (part_at b (3 + f))) ≡ true → FormulasUpto b k n (f + 1)
formulas_more b k n f h l t =
    let e : suc (3 + f) ≡ 3 + (f + 1) = omega arith in
    let d : n - f - 1 ≡ n - (f + 1) = omega arith in
    record {
      same =
          h.same
          ∙ answer_one b k (3 + f) (n - f) (omega arith)
          ∙ read_one_lem (3 + f) (formula_reading k (part_at b (3 + f))) (formulas_reading k (suc (3 + f)) (parts_from b (suc (3 + f)) (n - f - 1))) t
          ∙ ap₂ (answer_from b k) e d;
    }

pub formulas_stop : (b : List ℕ) (k n f : ℕ) → FormulasUpto b k n f → f < n → is_read (formula_reading k (part_at b (3 + f))) ≡ false → Err (BadFormula (3 + f)) ≡ answer_from b k 3 n
formulas_stop b k n f h l t = sym (h.same ∙ answer_one b k (3 + f) (n - f) (omega arith) ∙ refused_one (3 + f) (formula_reading k (part_at b (3 + f))) (formulas_reading k (suc (3 + f)) (parts_from b (suc (3 + f)) (n - f - 1))) t)

pub formulas_done : (b : List ℕ) (k n f : ℕ) → FormulasUpto b k n f → n ≤ f → Ok tt ≡ answer_from b k 3 n
unfolding parts_from formulas_reading
formulas_done b k n f h l = let e : n - f ≡ 0 = omega arith in sym (h.same ∙ ap (answer_from b k (3 + f)) e)

-- ---- the parts' numbers searched in order

-- the first f parts are formulas, where each of them is
upto_all : (b : List ℕ) (k n f : ℕ) → f ≤ n → ((i : ℕ) → i < f → is_read (formula_reading k (part_at b (3 + i))) ≡ true) → FormulasUpto b k n f
upto_all b k n zero l h = formulas_none b k n
upto_all b k n (suc f) l h =
    let e : suc f ≡ f + 1 = omega arith in
    rw e (formulas_more b k n f (upto_all b k n f (omega arith) (λ i m. h i (omega arith))) (omega arith) (h f (omega arith)))

parts_read : (b : List ℕ) (k n f : ℕ) → f ≤ n → AllWithin (λ i. is_read (formula_reading k (part_at b i)) ≡ true) (range_with_len 3 n) 0 f → FormulasUpto b k n f
parts_read b k n f l h =
    upto_all b k n f l (λ i m. ap (λ (x : ℕ). is_read (formula_reading k (part_at b x))) (sym (get_or-range_with_len 3 n i 0 (omega arith))) ∙ h i 0 (omega arith) m)

-- what `find` says of the parts' numbers
pub find_none : (b : List ℕ) (k n : ℕ) → AllWithin (λ i. is_read (formula_reading k (part_at b i)) ≡ true) (range_with_len 3 n) 0 (length (range_with_len 3 n)) → Ok tt ≡ answer_from b k 3 n
find_none b k n h = formulas_done b k n n (parts_read b k n n (le_refl n) (rw length-range_with_len at h)) (le_refl n)

pub find_some : (b : List ℕ) (k n x : ℕ) → (is_read (formula_reading k (part_at b x)) ≡ false) × (i : ℕ) × (i < length (range_with_len 3 n)) × HoldsAt (λ y. y ≡ x) (range_with_len 3 n) i × AllWithin (λ i. is_read (formula_reading k (part_at b i)) ≡ true) (range_with_len 3 n) 0 i → Err (BadFormula x) ≡ answer_from b k 3 n
find_some b k n x h =
    let l : h.1 < n = rw length-range_with_len at h.2 in
    let e : 3 + h.1 ≡ x = sym (get_or-range_with_len 3 n h.1 0 l) ∙ h.3 0 in
    ap (λ (j : ℕ). Err (BadFormula j)) (sym e) ∙ formulas_stop b k n h.1 (parts_read b k n h.1 (omega (arith, l)) h.4) l (rw e h.0)
