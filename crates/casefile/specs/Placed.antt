-- What holds of a case whose size, directory and places are right. Rests on Directory and Reading.
--   placed_reading, accepted_placed: a placed case is read part by part, and an accepted case is placed
--   parts_apart, parts_sorted: a part ends before every later one starts
--   part_placed, placed_part, has_directory, directory_in, none_misplaced, all_placed, misplaced_is: the tests as statements
--   part_of: part i of the list of parts
use Rattle.std.specs.Prelude.{ℕ, zero, suc, ◌+◌, ◌-◌, ◌≤◌, ◌<◌, ◌≡◌, refl, Bool, true, false, cond, not, ◌&&◌, List, [], ltb, leb, length, get_or}
use Rattle.std.proofs.Common.{sym, ap, ◌∙◌, ⊎_elim, le_refl, eq-or-lt_of_le, le_of_suc-le-suc, not-suc-le-zero, arith, ltb-true, ltb-false, leb-true, lt-ltb, le-ltb, le-leb}
use Rattle.std.proofs.lemmas.Bool.{not-false}
use Rattle.theory.specs.TestLaws.{and_l, and_r, all_four, first_is, first_unique}
use Rattle.refusal.specs.declared.Refusal.TheVariants.{CaseSize, Directory, PartPlace}
use Rattle.casefile.specs.Directory.{part_count, directory_end, part_start, part_size, part_end, end_before, placed, size_test, directory_test, misplaced, part_at, parts_from, parts_of}
use Rattle.casefile.specs.Reading.{Content, CaseReading, parts_reading, case_reading, refused, content}
use Rattle.casefile.specs.Conditions.{HasDirectory, PartPlaced, Placed}

pub part_placed : (b : List ℕ) (i : ℕ) → placed b i ≡ true → PartPlaced b i
unfolding placed
part_placed b i t =
    let f =
    all_four (ltb 0 (part_size b i)) (leb (directory_end b) (part_start b i)) (leb (end_before b i) (part_start b i)) (leb (part_end b i) (length b)) t in
    record {
      some = ltb-true _ _ f.first;
      after-directory = leb-true _ _ f.second;
      after_part = leb-true _ _ f.third;
      within = leb-true _ _ f.fourth;
    }

pub placed_part : (b : List ℕ) (i : ℕ) → PartPlaced b i → placed b i ≡ true
unfolding placed
placed_part b i p = simp (lt-ltb _ _ p.some, le-leb _ _ p.after-directory, le-leb _ _ p.after_part, le-leb _ _ p.within)

pub has_directory : (b : List ℕ) → size_test b ≡ true → directory_test b ≡ true → HasDirectory b
has_directory b s d =
    let c = and_l (leb 3 (part_count b) && leb (part_count b) 11) (leb (directory_end b) (length b)) d in
    record {
      size_most = leb-true _ _ (and_r (ltb 0 (length b)) (leb (length b) 32768) s);
      count_least = leb-true _ _ (and_l (leb 3 (part_count b)) (leb (part_count b) 11) c);
      count_most = leb-true _ _ (and_r (leb 3 (part_count b)) (leb (part_count b) 11) c);
      directory-within = leb-true _ _ (and_r (leb 3 (part_count b) && leb (part_count b) 11) (leb (directory_end b) (length b)) d);
    }

pub directory_in : (b : List ℕ) → HasDirectory b → (size_test b ≡ true) × (directory_test b ≡ true)
directory_in b d = (
  simp (lt-ltb 0 (length b) (omega arith), le-leb _ _ d.size_most),
  simp (le-leb _ _ d.count_least, le-leb _ _ d.count_most, le-leb _ _ d.directory-within),
)

-- no part is misplaced exactly where all are placed
pub none_misplaced : (b : List ℕ) → ltb (misplaced b) (part_count b) ≡ false → (i : ℕ) → i < part_count b → PartPlaced b i
unfolding misplaced
none_misplaced b m i l =
    part_placed b i
    (not-false _ ((first_is (part_count b) (λ j. not (placed b j))).earlier i (omega (arith, ltb-false (misplaced b) (part_count b) m))))

pub all_placed : (b : List ℕ) (i : ℕ) → HasDirectory b → i ≡ misplaced b → part_count b ≤ i → Placed b
all_placed b i d e l = record { directory = d; each = none_misplaced b (le-ltb (misplaced b) (part_count b) (omega arith)) }

pub misplaced_is : (b : List ℕ) → ((i : ℕ) → i < part_count b → PartPlaced b i) → misplaced b ≡ part_count b
unfolding misplaced
misplaced_is b h =
    sym
    (first_unique (part_count b) (λ j. not (placed b j)) (part_count b)
    (record { most = le_refl _; passes = λ l. absurd (omega arith); earlier = λ i l. rw (placed_part b i (h i l)) }))

-- a placed case is read part by part
pub placed_reading : (b : List ℕ) → Placed b → case_reading b ≡ parts_reading (part_at b 0) (part_at b 1) (part_at b 2) (parts_from b 3 (part_count b - 3))
unfolding case_reading
placed_reading b p =
    let d = directory_in b p.directory in
    let m : ltb (misplaced b) (part_count b) ≡ false = le-ltb (misplaced b) (part_count b) (omega (arith, misplaced_is b p.each)) in
    simp (d.0, d.1, m)

-- an accepted case is placed
pub accepted_placed : (b : List ℕ) (c : Content) → case_reading b ≡ content c → Placed b
unfolding case_reading
accepted_placed b c e = go (size_test b) refl (directory_test b) refl (ltb (misplaced b) (part_count b)) refl e
  where
    rest : CaseReading
    rest = parts_reading (part_at b 0) (part_at b 1) (part_at b 2) (parts_from b 3 (part_count b - 3))

    go : (s : Bool) → size_test b ≡ s → (d : Bool) → directory_test b ≡ d → (m : Bool) → ltb (misplaced b) (part_count b) ≡ m → cond s (cond d (cond m (refused (PartPlace (misplaced b))) rest) (refused Directory)) (refused CaseSize) ≡ content c → Placed b
    go false s d q m r x = absurd (let z : ◌≡◌ {A = ℕ} 0 1 = cc in omega arith)
    go true s false q m r x = absurd (let z : ◌≡◌ {A = ℕ} 0 1 = cc in omega arith)
    go true s true q true r x = absurd (let z : ◌≡◌ {A = ℕ} 0 1 = cc in omega arith)
    go true s true q false r x = record { directory = has_directory b s q; each = none_misplaced b r }

-- ---- the order of the parts

-- a part ends before every later part starts
pub parts_apart : (b : List ℕ) → Placed b → (i j : ℕ) → i < j → j < part_count b → part_end b i ≤ part_start b j
parts_apart b p i zero l m = absurd (omega arith)
parts_apart b p i (suc j) l m =
    ⊎_elim
    (λ (e : i ≡ j). rw e (p.each (suc j) m).after_part)
    (λ (k : i < j). omega (arith, parts_apart b p i j k (omega arith), (p.each (suc j) m).after_part))
    (eq-or-lt_of_le (le_of_suc-le-suc l))

-- 'sorted by offset'
pub parts_sorted : (b : List ℕ) → Placed b → (i j : ℕ) → i < j → j < part_count b → part_start b i < part_start b j
parts_sorted b p i j l m = omega (arith, parts_apart b p i j l m, (p.each i (omega arith)).some)

-- ---- the parts by their numbers

parts_at : (b : List ℕ) (n i j : ℕ) → j < n → get_or (parts_from b i n) j [] ≡ part_at b (i + j)
unfolding parts_from
parts_at b zero i j l = absurd (not-suc-le-zero l)
parts_at b (suc n) i zero l = let e : i ≡ i + 0 = omega arith in ap (part_at b) e
parts_at b (suc n) i (suc j) l = let e : suc i + j ≡ i + suc j = omega arith in parts_at b n (suc i) j (le_of_suc-le-suc l) ∙ ap (part_at b) e

pub part_of : (b : List ℕ) (i : ℕ) → i < part_count b → get_or (parts_of b) i [] ≡ part_at b i
part_of b i l = let z : 0 + i ≡ i = omega arith in parts_at b (part_count b) 0 i l ∙ ap (part_at b) z
