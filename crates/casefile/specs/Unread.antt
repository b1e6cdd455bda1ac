-- 'Bytes between parts are not read': bytes outside the directory and the parts change nothing in what a case is read as, accepted or
-- refused. Rests on Directory, Reading and Placed.
use Prim.Native.Nat.{ℕ, zero, suc, ◌+◌, ◌*◌, ◌-◌, ◌≤◌, ◌<◌}
use Rattle.std.specs.Prelude.{◌≡◌, Bool, ◌&&◌, length, get_or, take, drop}
use Rattle.std.proofs.Math.Path.{refl, ap, ap₂}
use Rattle.std.proofs.Common.{sym, ◌∙◌, arith, leb-true, length-take, length-drop, get_or-take, get_or-drop, ext_get_or}
use Rattle.std.proofs.Math.Bool.{true, false, cond, not}
use mathlib.Core.List.{List, [], ◌∷◌}
use Rattle.std.proofs.Math.Dec.{ltb, leb}
use Rattle.theory.specs.Test.{first_below}
use Rattle.theory.specs.TestLaws.{and_l, FirstAt, first_is, first_unique}
use Rattle.refusal.specs.declared.Refusal.TheVariants.{CaseSize, Directory, PartPlace}
use Rattle.casefile.specs.Directory.{part_count, directory_end, u16_at, part_start, part_size, part_end, end_before, placed, size_test, directory_test, misplaced, part_at, parts_from, parts_of}
use Rattle.casefile.specs.Reading.{CaseReading, parts_reading, case_reading, store_reading, refused}
use Rattle.casefile.specs.Placed.{part_of}
use Rattle.casefile.specs.Conditions.{SameWhereRead}

-- what a case whose size and directory are right is read as
abbrev after_directory : List ℕ → CaseReading
after_directory b =
    cond (ltb (misplaced b) (part_count b))
    (refused (PartPlace (misplaced b)))
    (parts_reading (part_at b 0) (part_at b 1) (part_at b 2) (parts_from b 3 (part_count b - 3)))

-- tests that agree below n are passed first at the same number
first_cong : (n : ℕ) (f g : ℕ → Bool) → ((i : ℕ) → i < n → f i ≡ g i) → first_below n f ≡ first_below n g
first_cong n f g h = go (first_is n f)
  where
    go : FirstAt n f (first_below n f) → first_below n f ≡ first_below n g
    go w =
        first_unique n g (first_below n f)
        (record { most = w.most; passes = λ l. sym (h _ l) ∙ w.passes l; earlier = λ i l. sym (h i (omega (arith, w.most))) ∙ w.earlier i l })

-- a byte of n bytes from `at` on
byte_from : (b : List ℕ) (at n j : ℕ) → j < n → get_or (take n (drop at b)) j 0 ≡ get_or b (at + j) 0
byte_from b at n j l = get_or-take n (drop at b) j 0 l ∙ get_or-drop at b j 0

-- ---- the directory: where its bytes are the same, the places of the parts are

module _ (b d : List ℕ) (same : (at : ℕ) → at < directory_end b → get_or b at 0 ≡ get_or d at 0) where
  count_same : part_count b ≡ part_count d
  count_same = same 0 (omega arith)

  u16_same : (at : ℕ) → at + 1 < directory_end b → u16_at b at ≡ u16_at d at
  u16_same at l = ap₂ (λ x y. x + 256 * y) (same at (omega arith)) (same (at + 1) l)

  start_same : (i : ℕ) → i < part_count b → part_start b i ≡ part_start d i
  unfolding part_start
  start_same i l = u16_same (1 + 4 * i) (omega arith)

  size_same : (i : ℕ) → i < part_count b → part_size b i ≡ part_size d i
  unfolding part_size
  size_same i l = u16_same (3 + 4 * i) (omega arith)

  before_same : (i : ℕ) → i < part_count b → end_before b i ≡ end_before d i
  before_same zero l = refl
  before_same (suc i) l = ap₂ ◌+◌ (start_same i (omega arith)) (size_same i (omega arith))

-- ---- the parts and the reading

module _ (b d : List ℕ) (s : SameWhereRead b d) where
  counts : part_count b ≡ part_count d
  counts = count_same b d s.same_directory

  starts : (i : ℕ) → i < part_count b → part_start b i ≡ part_start d i
  starts = start_same b d s.same_directory

  sizes : (i : ℕ) → i < part_count b → part_size b i ≡ part_size d i
  sizes = size_same b d s.same_directory

  placed_same : (i : ℕ) → i < part_count b → placed b i ≡ placed d i
  unfolding placed
  placed_same i l = rw (sizes i l, starts i l, before_same b d s.same_directory i l, s.same_length, counts)

  misplaced_same : misplaced b ≡ misplaced d
  unfolding misplaced
  misplaced_same =
      first_cong (part_count b) (λ i. not (placed b i)) (λ i. not (placed d i)) (λ i l. ap not (placed_same i l))
      ∙ ap (λ n. first_below n (λ i. not (placed d i))) counts

  part_same : (i : ℕ) → i < part_count b → part_at b i ≡ part_at d i
  part_same i l =
      ext_get_or 0 (part_at b i) (part_at d i)
      (simp (length-take, length-drop, starts i l, sizes i l, s.same_length))
      (λ j m.
      let t : j < part_size b i = omega (arith, simp length-take at m) in
      byte_from b (part_start b i) (part_size b i) j t
      ∙ s.same_part i l (part_start b i + j) (omega arith) (omega arith)
      ∙ ap (λ x. get_or d (x + j) 0) (starts i l)
      ∙ sym (byte_from d (part_start d i) (part_size d i) j (rw (← sizes i l) t)))

  parts_same : (i n : ℕ) → i + n ≤ part_count b → parts_from b i n ≡ parts_from d i n
  unfolding parts_from
  parts_same i zero l = refl
  parts_same i (suc n) l = ap₂ ◌∷◌ (part_same i (omega arith)) (parts_same (suc i) n (omega arith))

  -- where the count of parts is right
  rest_same : directory_test b ≡ true → after_directory b ≡ after_directory d
  rest_same t =
      let least : 3 ≤ part_count b = leb-true 3 (part_count b) (and_l (leb 3 (part_count b)) (leb (part_count b) 11) (and_l (leb 3 (part_count b) && leb (part_count b) 11) (leb (directory_end b) (length b)) t)) in
      rw (misplaced_same, part_same 0 (omega arith), part_same 1 (omega arith), part_same 2 (omega arith), parts_same 3 (part_count b - 3) (omega arith), counts)

  -- 'Bytes between parts are not read': a case with other bytes there is read as the same content, or refused with the same refusal.
  pub unread_same : case_reading b ≡ case_reading d
  unfolding case_reading
  unread_same =
      go (directory_test b) refl
      ∙ ap₂ (λ x y. cond x (cond y (after_directory d) (refused Directory)) (refused CaseSize))
      (ap (λ n. ltb 0 n && leb n 32768) s.same_length)
      (ap₂ (λ k n. leb 3 k && leb k 11 && leb (1 + 4 * k) n) counts s.same_length)
    where
      go : (t : Bool) → directory_test b ≡ t → cond (size_test b) (cond t (after_directory b) (refused Directory)) (refused CaseSize) ≡ cond (size_test b) (cond t (after_directory d) (refused Directory)) (refused CaseSize)
      go true e = ap (λ r. cond (size_test b) r (refused CaseSize)) (rest_same e)
      go false e = refl

-- A store is read in its first 24,576 bytes, and of these only where its directory and its parts stand.
pub store_unread_same : (s t : List ℕ) → SameWhereRead (take 24576 s) (take 24576 t) → store_reading s ≡ store_reading t
store_unread_same s t h = unread_same (take 24576 s) (take 24576 t) h

-- ---- the same condition by the lists: the same directory, as much of it as there is, and the same parts

module _ (b d : List ℕ) (n : length b ≡ length d) (e : take (directory_end b) b ≡ take (directory_end b) d) (p : parts_of b ≡ parts_of d) where
  directory_at : (at : ℕ) → at < directory_end b → get_or b at 0 ≡ get_or d at 0
  directory_at at l = sym (get_or-take (directory_end b) b at 0 l) ∙ ap (λ x. get_or x at 0) e ∙ get_or-take (directory_end b) d at 0 l

  part_at_lem : (i : ℕ) → i < part_count b → part_at b i ≡ part_at d i
  part_at_lem i l = sym (part_of b i l) ∙ ap (λ ps. get_or ps i []) p ∙ part_of d i (rw (← count_same b d directory_at) l)

  byte_at : (i : ℕ) → i < part_count b → (at : ℕ) → part_start b i ≤ at → at < part_end b i → get_or b at 0 ≡ get_or d at 0
  byte_at i l at u v =
      let j = at - part_start b i in
      let a : part_start b i + j ≡ at = omega arith in
      let t : j < part_size b i = omega arith in
      ap (λ x. get_or b x 0) (sym a)
      ∙ sym (byte_from b (part_start b i) (part_size b i) j t)
      ∙ ap (λ x. get_or x j 0) (part_at_lem i l)
      ∙ byte_from d (part_start d i) (part_size d i) j (rw (← size_same b d directory_at i l) t)
      ∙ ap (λ x. get_or d (x + j) 0) (sym (start_same b d directory_at i l))
      ∙ ap (λ x. get_or d x 0) a

  pub same_parts_same : case_reading b ≡ case_reading d
  same_parts_same = unread_same b d (record { same_length = n; same_directory = directory_at; same_part = byte_at })
