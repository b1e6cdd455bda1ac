-- For a loop over the directory that keeps in `from` where the next part may start. Rests on Placed and Steps.
--   PlacedUpto: the parts before part i are placed; upto_none, upto_more, upto_stop, upto_done: its begin, a turn, a misplaced part, its end
--   well_is_placed: the test of a turn is that of the definition
use Rattle.std.specs.Prelude.{ℕ, suc, max, ◌+◌, ◌≤◌, ◌<◌, ◌≡◌, true, false, not, ◌&&◌, List, ltb, leb, length}
use Rattle.std.proofs.Common.{sym, ◌∙◌, le_refl, add-one, arith, ltb-true, leb-true, lt-ltb, le-leb}
use Rattle.theory.specs.TestLaws.{below_suc, and_l, and_r, bool_same, first_unique}
use Rattle.casefile.specs.Directory.{part_count, directory_end, part_start, part_size, part_end, end_before, placed, misplaced}
use Rattle.casefile.specs.Placed.{part_placed, placed_part}
use Rattle.casefile.specs.Conditions.{PartPlaced}
use Rattle.casefile.specs.Steps.{well_placed}

-- the parts before part i are placed
pub record PlacedUpto (b : List ℕ) (i from : ℕ) : Type 0 where
  pub from_is : from ≡ max (directory_end b) (end_before b i)
  pub before : (j : ℕ) → j < i → placed b j ≡ true

pub well_is_placed : (b : List ℕ) (i from : ℕ) → PlacedUpto b i from → well_placed b i from ≡ placed b i
well_is_placed b i from h =
    bool_same (well_placed b i from) (placed b i)
    (λ t.
    let u = and_l (ltb 0 (part_size b i) && leb from (part_start b i)) (leb (part_end b i) (length b)) t in
    let l = leb-true from (part_start b i) (and_r (ltb 0 (part_size b i)) (leb from (part_start b i)) u) in
    placed_part b i
    (record {
      some = ltb-true _ _ (and_l (ltb 0 (part_size b i)) (leb from (part_start b i)) u);
      after-directory = omega (arith, h.from_is);
      after_part = omega (arith, h.from_is);
      within = leb-true _ _ (and_r (ltb 0 (part_size b i) && leb from (part_start b i)) (leb (part_end b i) (length b)) t);
    }))
    (λ t. go (part_placed b i t))
  where
    go : PartPlaced b i → well_placed b i from ≡ true
    go p = simp (lt-ltb _ _ p.some, le-leb from (part_start b i) (omega (arith, h.from_is, p.after-directory, p.after_part)), le-leb _ _ p.within)

pub upto_none : (b : List ℕ) (from : ℕ) → from ≡ directory_end b → PlacedUpto b 0 from
upto_none b from e = record { from_is = omega arith; before = λ j l. absurd (omega arith) }

pub upto_more : (b : List ℕ) (i from next : ℕ) → PlacedUpto b i from → well_placed b i from ≡ true → next ≡ part_end b i → PlacedUpto b (i + 1) next
upto_more b i from next h t e = rw add-one (go (sym (well_is_placed b i from h) ∙ t))
  where
    go : placed b i ≡ true → PlacedUpto b (suc i) next
    go q = record { from_is = omega (arith, (part_placed b i q).after-directory); before = below_suc {P = λ j. placed b j ≡ true} h.before q }

pub upto_stop : (b : List ℕ) (i from : ℕ) → PlacedUpto b i from → i < part_count b → well_placed b i from ≡ false → i ≡ misplaced b
unfolding misplaced
upto_stop b i from h l t =
    let q : placed b i ≡ false = sym (well_is_placed b i from h) ∙ t in
    first_unique (part_count b) (λ j. not (placed b j)) i
    (record { most = omega arith; passes = λ m. rw q; earlier = λ j m. rw (h.before j m) })

pub upto_done : (b : List ℕ) (i from : ℕ) → PlacedUpto b i from → i ≤ part_count b → part_count b ≤ i → part_count b ≡ misplaced b
unfolding misplaced
upto_done b i from h l m =
    first_unique (part_count b) (λ j. not (placed b j)) (part_count b)
    (record { most = le_refl _; passes = λ q. absurd (omega arith); earlier = λ j q. rw (h.before j (omega arith)) })
