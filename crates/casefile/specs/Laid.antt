-- The gapless case of a list of parts, with any bytes after it, is read as these parts. Rests on Gapless and Placed.
--   gapless_reading: the gapless case of 3 to 11 parts, none empty, is read as these parts
--   LaidOne, Laid, laid, laid_part, laid_parts, laid-placed: parts that stand one after the other
--   pairs-length, gapless-length, gapless-laid, gapless-count: of the gapless case
use Rattle.std.specs.Prelude.{ℕ, suc, ◌+◌, ◌*◌, ◌-◌, ◌≤◌, ◌<◌, ◌≡◌, get_or, take, drop}
use Rattle.std.proofs.Math.Path.{refl, sym, ap, ap₂}
use Rattle.std.proofs.Common.{◌∙◌, ⊎_elim, eq-or-lt_of_le, arith, get_or-append-add, take_at}
use mathlib.Core.List.{List, [], ◌∷◌, ◌++◌, append_assoc}
use Rattle.std.proofs.Math.ListN.{length, length-append}
use Rattle.std.proofs.Math.Seq.{drop_at}
use Rattle.theory.specs.Lattice.{All}
use Rattle.casefile.specs.Directory.{part_count, directory_end, part_start, part_size, end_before, part_at, parts_from}
use Rattle.casefile.specs.Reading.{parts_reading, case_reading}
use Rattle.casefile.specs.Gapless.{u16_then, pairs, joined, gapless}
use Rattle.casefile.specs.Placed.{placed_reading}
use Rattle.casefile.specs.Conditions.{PartPlaced, Placed}

-- part i of b is p and stands at `at`
pub record LaidOne (b : List ℕ) (i at : ℕ) (p : List ℕ) : Type 0 where
  pub starts : part_start b i ≡ at
  pub sized : part_size b i ≡ length p
  pub bytes : take (length p) (drop at b) ≡ p
  pub within : at + length p ≤ length b

-- the parts from part i on are ps, one after the other, the first at `at`
abbrev pub Laid : List ℕ → ℕ → ℕ → List (List ℕ) → Type 0
Laid b i at [] = Unit {0}
Laid b i at (p ∷ ps) = LaidOne b i at p × Laid b (suc i) (at + length p) ps

-- a byte of b, past a front of n bytes
byte_past : (b pre ys : List ℕ) (n k at : ℕ) → b ≡ pre ++ ys → length pre ≡ n → at ≡ n + k → get_or b at 0 ≡ get_or ys k 0
byte_past b pre ys n k at e l f = rw (e, f, ← l) (get_or-append-add pre ys k 0)

module _ (b : List ℕ) where
  -- the pair of a part, where the pairs from part i on stand past a front of 1 + 4·i bytes
  start_read : (i x : ℕ) (pre ys : List ℕ) → b ≡ pre ++ u16_then x ys → length pre ≡ 1 + 4 * i → part_start b i ≡ x
  unfolding part_start
  start_read i x pre ys e l =
      rw (byte_past b pre (u16_then x ys) (1 + 4 * i) 0 (1 + 4 * i) e l (omega arith), byte_past b pre (u16_then x ys) (1 + 4 * i) 1 (1 + 4 * i + 1) e l (omega arith))
      (omega arith)

  size_read : (i x y : ℕ) (pre ys : List ℕ) → b ≡ pre ++ u16_then x (u16_then y ys) → length pre ≡ 1 + 4 * i → part_size b i ≡ y
  unfolding part_size
  size_read i x y pre ys e l =
      rw (byte_past b pre (u16_then x (u16_then y ys)) (1 + 4 * i) 2 (3 + 4 * i) e l (omega arith), byte_past b pre (u16_then x (u16_then y ys)) (1 + 4 * i) 3 (3 + 4 * i + 1) e l (omega arith))
      (omega arith)

  -- where the pairs and the parts stand, each past a front of its own, the parts are laid
  pub laid : (ps : List (List ℕ)) (i at : ℕ) (pre r front s : List ℕ) → b ≡ pre ++ (pairs at ps ++ r) → length pre ≡ 1 + 4 * i → b ≡ front ++ (joined ps ++ s) → length front ≡ at → Laid b i at ps
  unfolding pairs joined
  laid [] i at pre r front s e l f m = tt
  laid (p ∷ ps) i at pre r front s e l f m =
      let g : b ≡ front ++ (p ++ (joined ps ++ s)) = f ∙ rw append_assoc in (
        record {
          starts = start_read i at pre _ e l;
          sized = size_read i at (length p) pre _ e l;
          bytes = rw (g, drop_at front (p ++ (joined ps ++ s)) at m) (take_at p (joined ps ++ s) (length p) refl);
          within = omega (arith, m, ap length g, length-append front (p ++ (joined ps ++ s)), length-append p (joined ps ++ s));
        },
        laid ps (suc i) (at + length p)
            (pre ++ u16_then at (u16_then (length p) [])) r (front ++ p) s
            (e ∙ sym (append_assoc pre (u16_then at (u16_then (length p) [])) (pairs (at + length p) ps ++ r)))
            (omega (arith, l, length-append pre (u16_then at (u16_then (length p) []))))
            (g ∙ sym (append_assoc front p (joined ps ++ s)))
            (omega (arith, m, length-append front p)),
      )

  -- a part that is laid is read as it is
  pub laid_part : (i at : ℕ) (p : List ℕ) → LaidOne b i at p → part_at b i ≡ p
  laid_part i at p h = rw (h.starts, h.sized) h.bytes

  pub laid_parts : (ps : List (List ℕ)) (i at : ℕ) → Laid b i at ps → parts_from b i (length ps) ≡ ps
  unfolding parts_from
  laid_parts [] i at h = refl
  laid_parts (p ∷ ps) i at h = ap₂ ◌∷◌ (laid_part i at p h.0) (laid_parts ps (suc i) (at + length p) h.1)

  -- and stands where it may
  pub laid-placed : (ps : List (List ℕ)) (i at : ℕ) → Laid b i at ps → All (λ p. 0 < length p) ps → directory_end b ≤ at → end_before b i ≤ at → (j : ℕ) → i ≤ j → j < i + length ps → PartPlaced b j
  laid-placed [] i at h some d e j l m = absurd (omega arith)
  laid-placed (p ∷ ps) i at h some d e j l m =
      ⊎_elim
      (λ (q : i ≡ j).
      rw (← q)
      (record {
        some = omega (arith, h.0.sized, some.0);
        after-directory = omega (arith, h.0.starts);
        after_part = omega (arith, h.0.starts);
        within = omega (arith, h.0.starts, h.0.sized, h.0.within);
      }))
      (λ (q : i < j). laid-placed ps (suc i) (at + length p) h.1 some.1 (omega arith) (omega (arith, h.0.starts, h.0.sized)) j q (omega arith))
      (eq-or-lt_of_le l)

-- ---- the gapless case

pub pairs-length : (at : ℕ) (ps : List (List ℕ)) → length (pairs at ps) ≡ 4 * length ps
unfolding pairs
pairs-length at [] = refl
pairs-length at (p ∷ ps) = omega (arith, pairs-length (at + length p) ps)

pub gapless-length : (ps : List (List ℕ)) → length (gapless ps) ≡ 1 + 4 * length ps + length (joined ps)
unfolding gapless
gapless-length ps = omega (arith, length-append (pairs (1 + 4 * length ps) ps) (joined ps), pairs-length (1 + 4 * length ps) ps)

-- the parts of a gapless case, with the bytes r after it
pub gapless-laid : (ps : List (List ℕ)) (r : List ℕ) → Laid (gapless ps ++ r) 0 (1 + 4 * length ps) ps
unfolding gapless
gapless-laid ps r =
    laid (gapless ps ++ r) ps 0 (1 + 4 * length ps) (length ps ∷ []) (joined ps ++ r) (length ps ∷ pairs (1 + 4 * length ps) ps) r
    (ap (λ (t : List ℕ). length ps ∷ t) (append_assoc (pairs (1 + 4 * length ps) ps) (joined ps) r))
    refl
    (ap (λ (t : List ℕ). length ps ∷ t) (append_assoc (pairs (1 + 4 * length ps) ps) (joined ps) r))
    (omega (arith, pairs-length (1 + 4 * length ps) ps))

pub gapless-count : (ps : List (List ℕ)) (r : List ℕ) → part_count (gapless ps ++ r) ≡ length ps
unfolding gapless
gapless-count ps r = refl

-- laid parts are read as they are
laid_reading : (b l m1 m2 : List ℕ) (fs : List (List ℕ)) (at : ℕ) → Laid b 0 at (l ∷ m1 ∷ m2 ∷ fs) → part_count b - 3 ≡ length fs → parts_reading (part_at b 0) (part_at b 1) (part_at b 2) (parts_from b 3 (part_count b - 3)) ≡ parts_reading l m1 m2 fs
laid_reading b l m1 m2 fs at h n =
    rw (laid_part b 0 at l h.0, laid_part b 1 _ m1 h.1.0, laid_part b 2 _ m2 h.1.1.0, n, laid_parts b fs 3 _ h.1.1.1) refl

gapless-placed : (ps : List (List ℕ)) (r : List ℕ) → All (λ p. 0 < length p) ps → 3 ≤ length ps → length ps ≤ 11 → length (gapless ps ++ r) ≤ 32768 → Placed (gapless ps ++ r)
gapless-placed ps r some least most fits =
    let n = gapless-count ps r in
    record {
      directory = record {
        size_most = fits;
        count_least = omega arith;
        count_most = omega arith;
        directory-within = omega (arith, length-append (gapless ps) r, gapless-length ps);
      };
      each = λ j q. laid-placed (gapless ps ++ r) ps 0 (1 + 4 * length ps) (gapless-laid ps r) some (omega arith) (omega arith) j (omega arith) (omega arith);
    }

-- The gapless case of 3 to 11 parts, none empty, is read as these parts, whatever stands after it.
pub gapless_reading : (l m1 m2 : List ℕ) (fs : List (List ℕ)) (r : List ℕ) → All (λ p. 0 < length p) (l ∷ m1 ∷ m2 ∷ fs) → length fs ≤ 8 → length (gapless (l ∷ m1 ∷ m2 ∷ fs) ++ r) ≤ 32768 → case_reading (gapless (l ∷ m1 ∷ m2 ∷ fs) ++ r) ≡ parts_reading l m1 m2 fs
gapless_reading l m1 m2 fs r some few most =
    let n = gapless-count (l ∷ m1 ∷ m2 ∷ fs) r in
    placed_reading _ (gapless-placed (l ∷ m1 ∷ m2 ∷ fs) r some (omega arith) (omega arith) most)
    ∙ laid_reading (gapless (l ∷ m1 ∷ m2 ∷ fs) ++ r) l m1 m2 fs _ (gapless-laid (l ∷ m1 ∷ m2 ∷ fs) r) (omega arith)
