-- The parts that refusals 3 and 10 name. Rests on Reading, Placed, RefusedAs, formula's RoundTrip.
--   first_misplaced: the part that 3 names is the first that does not stand where it may
--   first_formula: the part that 10 names is the first that is no formula; k: the count of propositions
use Prim.Native.Nat.{ℕ, zero, suc, ◌+◌, ◌<◌}
use Rattle.std.proofs.Math.Path.{◌≡◌, refl}
use Rattle.std.proofs.Common.{sym, ap, ⊎_elim, eq-or-lt_of_le, arith, le-leb}
use Rattle.std.specs.Prelude.{not, ◌&&◌, ◌↔◌, List, leb, get_or}
use mathlib.Core.Logic.Iff
use Rattle.std.proofs.lemmas.Bool.{not-false}
use Rattle.theory.specs.Formula.{Formula, closed, over_props, nested_binders}
use Rattle.theory.specs.TestLaws.{and_in, false_true, not_passed, first_is, first_unique}
use Rattle.formula.specs.Bytes.{FormulaReading, formula_reading}
use Rattle.formula.specs.RoundTrip.{FormulaPart, formula_part, reading_exactly}
use Rattle.casefile.specs.Directory.{part_count, placed, misplaced, part_at, parts_from}
use Rattle.casefile.specs.Reading.{FormulasReading, read_one, formulas_reading, refused_at, read}
use Rattle.casefile.specs.Conditions.{PartPlaced}
use Rattle.casefile.specs.RefusedAs.{HasFormula, FirstBroken}
use Rattle.casefile.specs.Placed.{part_placed, placed_part}

pub first_misplaced : (b : List ℕ) (i : ℕ) → ((misplaced b ≡ i) × (misplaced b < part_count b)) ↔ FirstBroken 0 (part_count b) (PartPlaced b) i
unfolding misplaced
first_misplaced b i = (λ w. rw (← w.0) (there w.1), back)
  where
    there : misplaced b < part_count b → FirstBroken 0 (part_count b) (PartPlaced b) (misplaced b)
    there l =
        let w = first_is (part_count b) (λ j. not (placed b j)) in
        record {
          least = omega arith;
          below = l;
          earlier = λ j m n. part_placed b j (not-false _ (w.earlier j n));
          broken = λ p. false_true (ap not (placed_part b (misplaced b) p)) (w.passes l);
        }

    back : FirstBroken 0 (part_count b) (PartPlaced b) i → (misplaced b ≡ i) × (misplaced b < part_count b)
    back w =
        let q : i ≡ misplaced b = first_unique (part_count b) (λ j. not (placed b j)) i (record {
          most = omega (arith, w.below);
          passes = λ l. ap not (not_passed (placed b i) (λ t. w.broken (part_placed b i t)));
          earlier = λ j m. ap not (placed_part b j (w.earlier j (omega arith) m));
        }) in
        (sym q, rw q at w.below)

module _ (b : List ℕ) where
  -- k of model 1
  abbrev pub k : ℕ
  k = get_or (part_at b 1) 1 0

  formula_read : (i : ℕ) (φ : Formula) → FormulaPart k (part_at b i) φ → formula_reading k (part_at b i) ≡ FormulaReading.read φ
  formula_read i φ w =
      (reading_exactly k (part_at b i) φ).1 (
        w.bytes,
        w.most,
        and_in (closed φ && over_props k φ) (leb (nested_binders φ) 3) (and_in (closed φ) (over_props k φ) w.is_closed w.props) (le-leb _ _ w.binders),
      )

  no_formula : (i : ℕ) → formula_reading k (part_at b i) ≡ FormulaReading.refused → ¬ HasFormula b i
  no_formula i e w = let h = formula_read i w.0 w.1 in let z : ◌≡◌ {A = ℕ} 0 1 = cc in omega arith

  -- what is refused of the parts after a formula is refused
  named_next : (i : ℕ) (φ : Formula) (y : FormulasReading) (j : ℕ) → (read_one i (FormulaReading.read φ) y ≡ refused_at j) ↔ (y ≡ refused_at j)
  named_next i φ (refused_at x) j = Iff.rfl
  named_next i φ (read φs) j = (λ e. absurd (let z : ◌≡◌ {A = ℕ} 0 1 = cc in omega arith), λ e. absurd (let z : ◌≡◌ {A = ℕ} 0 1 = cc in omega arith))

  -- the first of the n parts from part `from` on that is none
  abbrev First : ℕ → ℕ → ℕ → Type 0
  First n from i = FirstBroken from (from + n) (HasFormula b) i

  module _ (n from i : ℕ) where
    is-first : ¬ HasFormula b from → First n from i → i ≡ from
    is-first h w = let x : ¬ (from < i) = λ l. h (w.earlier from (omega arith) l) in omega (arith, w.least)

    one_more : HasFormula b from → First n (suc from) i → First (suc n) from i
    one_more h w =
        record {
          least = omega (arith, w.least);
          below = omega (arith, w.below);
          earlier = λ j l m. ⊎_elim (λ (e : from ≡ j). rw (← e) h) (λ (q : from < j). w.earlier j q m) (eq-or-lt_of_le l);
          broken = w.broken;
        }

    one_less : HasFormula b from → First (suc n) from i → First n (suc from) i
    one_less h w =
        let x : ¬ (from ≡ i) = λ e. w.broken (rw e at h) in
        record { least = omega (arith, w.least); below = omega (arith, w.below); earlier = λ j l m. w.earlier j (omega arith) m; broken = w.broken }

  -- The part that the reading names is the first that is no formula.
  pub first_formula : (n from i : ℕ) → (formulas_reading k from (parts_from b from n) ≡ refused_at i) ↔ First n from i
  unfolding formulas_reading parts_from
  first_formula zero from i = (λ e. absurd (let z : ◌≡◌ {A = ℕ} 0 1 = cc in omega arith), λ w. absurd (omega (arith, w.least, w.below)))
  first_formula (suc n) from i = go (formula_reading k (part_at b from)) refl (first_formula n (suc from) i)
    where
      rest : FormulasReading
      rest = formulas_reading k (suc from) (parts_from b (suc from) n)

      go : (x : FormulaReading) → formula_reading k (part_at b from) ≡ x → (rest ≡ refused_at i) ↔ First n (suc from) i
          → (read_one from x rest ≡ refused_at i) ↔ First (suc n) from i
      go FormulaReading.refused e h = (
        λ u.
            let q : from ≡ i = cc in
            record { least = omega arith; below = omega arith; earlier = λ j l m. absurd (omega arith); broken = rw q at (no_formula from e) },
        λ w. ap refused_at (sym (is-first (suc n) from i (no_formula from e) w)),
      )
      go (FormulaReading.read φ) e h =
          let f : HasFormula b from = (φ, formula_part k (part_at b from) φ e) in
          Iff.trans (named_next from φ rest i) (Iff.trans h (one_more n from i f, one_less n from i f))
