-- The loops over the parts of a case that write its gapless form, or count its bytes. Rests on Appended, Gapless and Accepted.
-- The definitions are in specs/Writer.
--   gapless-fits, directory-fits: a placed case is at least as long as its gapless form, and a buffer for that holds the directory
--   writing_start; pairs_turn, parts_turn; writing_done: its begin, its turns and its end
--   case_written: the count, the pairs and the parts are the gapless case
use Rattle.std.specs.Prelude.{ℕ, zero, suc, ◌+◌, ◌*◌, ◌-◌, ◌≤◌, ◌<◌, ◌≡◌, List, [], ◌∷◌, ◌++◌, take, drop, set}
use Rattle.std.proofs.Math.Path.{refl, sym}
use Rattle.std.proofs.Common.{subst, ap, ◌∙◌, zero-add, add-one}
use native.Mathlib.Omega.{arith}
use Rattle.std.proofs.Math.ListN.{length, length-append}
use Rattle.std.proofs.Math.Seq.{length-take-le}
use Rattle.theory.specs.Lists.{written}
use Rattle.casefile.specs.Directory.{part_count, directory_end, part_start, part_size, part_at, parts_from, parts_of}
use Rattle.casefile.specs.Gapless.{pairs, joined, gapless, pairs_of, joined_of, gapless_of}
use Rattle.casefile.specs.Conditions.{Placed}
use Rattle.casefile.specs.Laid.{pairs-length, gapless-length}
use Rattle.casefile.proofs.Accepted.{part_length, parts_length}
use Rattle.casefile.specs.Steps.{with_pair, with_pairs, with_parts}
use Rattle.casefile.specs.Appended.{Appended, appended_start, appended_length, appended_byte, appended_part, appended_done, appended_last, appended_u16}
use Rattle.casefile.specs.Writer.{parts_left, Measured, Writing, PairsWritten, PartsWritten, Room}

-- ---- a placed case is at least as long as its gapless form

joined-fits : (b : List ℕ) → Placed b → (n i at : ℕ) → i + n ≡ part_count b → at ≤ length b → (0 < n → at ≤ part_start b i) → at + length (joined (parts_from b i n)) ≤ length b
unfolding joined parts_from
joined-fits b p zero i at e l s = omega arith
joined-fits b p (suc n) i at e l s =
    let q = p.each i (omega arith) in
    let m = part_length b p i (omega arith) in
    let f : at ≤ part_start b i = s (omega arith) in
    omega (
      arith,
      length-append (part_at b i) (joined (parts_from b (suc i) n)),
      joined-fits b p n (suc i) (at + length (part_at b i)) (omega arith) (omega (arith, q.within)) (λ (z : 0 < n). omega (arith, (p.each (suc i) (omega arith)).after_part)),
    )

pub gapless-fits : (b : List ℕ) → Placed b → length (gapless (parts_of b)) ≤ length b
gapless-fits b p =
    let d = p.directory in
    omega (
      arith,
      gapless-length (parts_of b),
      parts_length b 0 (part_count b),
      joined-fits b p (part_count b) 0 (1 + 4 * part_count b) (omega arith) d.directory-within (λ (z : 0 < part_count b). (p.each 0 (omega (arith, d.count_least))).after-directory),
    )

-- the gapless form of the parts of a case
gapless_parts : (b : List ℕ) → gapless (parts_of b) ≡ part_count b ∷ pairs (1 + 4 * part_count b) (parts_of b) ++ joined (parts_of b)
unfolding gapless
gapless_parts b = ap (λ (n : ℕ). n ∷ pairs (1 + 4 * n) (parts_of b) ++ joined (parts_of b)) (parts_length b 0 (part_count b))

-- ---- the loops over the parts

parts_next : (b : List ℕ) (i : ℕ) → i < part_count b → parts_left b i ≡ part_at b i ∷ parts_left b (i + 1)
unfolding parts_from
parts_next b i l =
    let e : part_count b - i ≡ suc (part_count b - (i + 1)) = omega arith in
    ap (parts_from b i) e ∙ rw add-one refl

pub measured_none : {b : List ℕ} → Placed b → Measured b 0 (directory_end b)
measured_none {b} p =
    let e : part_count b - 0 ≡ part_count b = omega arith in
    record { placed = p; offset = rw e (omega (arith, gapless-length (parts_of b), parts_length b 0 (part_count b))) }

module _ {b : List ℕ} {i at : ℕ} (w : Measured b i at) where
  pub measured_more : (size : ℕ) → i < part_count b → size ≡ part_size b i → Measured b (i + 1) (at + size)
  unfolding joined
  measured_more size l e =
      record {
        placed = w.placed;
        offset = omega (arith, e, part_length b w.placed i l, rw (parts_next b i l) at w.offset, length-append (part_at b i) (joined (parts_left b (i + 1))));
      }

  -- the place is one of 16 bits
  pub measured_small : at < 65536
  measured_small = omega (arith, w.offset, gapless-fits b w.placed, w.placed.directory.size_most)

  pub measured_done : part_count b ≤ i → at ≡ length (gapless_of b)
  unfolding parts_from joined
  measured_done l = let e : part_count b - i ≡ 0 = omega arith in omega (arith, rw e at w.offset)

pub directory-fits : (b d : List ℕ) → length (gapless_of b) ≤ length d → directory_end b ≤ length d
directory-fits b d l = omega (arith, gapless-length (parts_of b), parts_length b 0 (part_count b))

pub writing_start : (f : ℕ → List (List ℕ) → List ℕ) (from : ℕ) {b d : List ℕ} → Placed b → length (gapless_of b) ≤ length d → from ≤ directory_end b → Writing f from b d d 0 (directory_end b) from
writing_start f from {b} {d} p l m =
    let e : part_count b - 0 ≡ part_count b = omega arith in
    record {
      measured = measured_none p;
      fits = l;
      front = m;
      appended = rw e (appended_start d from (f (directory_end b) (parts_of b)) (omega (arith, directory-fits b d l)));
    }

module _ {f : ℕ → List (List ℕ) → List ℕ} {from : ℕ} {b d out : List ℕ} {i at place : ℕ} (w : Writing f from b d out i at place) where
  -- after a turn
  measured_turn : (size : ℕ) → i < part_count b → size ≡ length (part_at b i) → Measured b (i + 1) (at + size)
  measured_turn size l e = measured_more w.measured size l (e ∙ part_length b w.measured.placed i l)

  pub writing_room : i < part_count b → Room b d i at
  writing_room l =
      let m = measured_turn (length (part_at b i)) l refl in
      record {
        directory-within = directory-fits b d w.fits;
        part_within = omega (arith, m.offset, w.fits);
        end_small = measured_small m;
        sized = part_length b w.measured.placed i l;
      }

  pub writing_done : f at [] ≡ [] → part_count b ≤ i → out ≡ written from (f (directory_end b) (parts_of b)) d
  unfolding parts_from
  writing_done none l =
      let e : part_count b - i ≡ 0 = omega arith in
      let x = f (directory_end b) (parts_of b) in
      let k : length (take from d ++ x) ≡ from + length x = omega (arith, length-append (take from d) x, length-take-le from d (omega (arith, w.front, directory-fits b d w.fits))) in
      appended_done (rw (e, none) at w.appended) ∙ rw k refl

module _ {b d out : List ℕ} {i at : ℕ} where
  -- a turn that writes the pair of part i
  pub pairs_turn : {next : List ℕ} (size : ℕ) → PairsWritten b d out i at → i < part_count b → size ≡ part_size b i → next ≡ with_pair out i at size → PairsWritten b d next (i + 1) (at + size)
  unfolding pairs
  pairs_turn size w l e g =
      let r = writing_room w l in
      let m : length (part_at b i) ≡ size = r.sized ∙ sym e in
      let k : 1 + 4 * i + 2 ≡ 3 + 4 * i = omega arith in
      let z : 3 + 4 * i + 2 ≡ 1 + 4 * (i + 1) = omega arith in
      let v = rw k at (appended_u16 at (rw (parts_next b i l, m) at w.appended) (omega (arith, r.directory-within))) in
      rw g
      (record {
        measured = measured_turn w size l (sym m);
        fits = w.fits;
        front = w.front;
        appended = rw z at (appended_u16 size v (omega (arith, r.directory-within)));
      })

  -- a turn that writes part i
  pub parts_turn : {next q : List ℕ} → PartsWritten b d out i at → i < part_count b → q ≡ part_at b i → next ≡ written at q out → PartsWritten b d next (i + 1) (at + length q)
  unfolding joined
  parts_turn w l e g =
      rw (g, e)
      (record {
        measured = measured_turn w (length (part_at b i)) l refl;
        fits = w.fits;
        front = w.front;
        appended = appended_part (part_at b i) (rw (parts_next b i l) at w.appended);
      })

  pub pairs_buffer_length : PairsWritten b d out i at → i ≤ part_count b → length out ≡ length d
  pairs_buffer_length w l = appended_length w.appended (omega (arith, directory-fits b d w.fits))

  pub parts_buffer_length : PartsWritten b d out i at → length out ≡ length d
  parts_buffer_length w = appended_length w.appended (omega (arith, w.measured.offset, w.fits))

-- ---- the whole case

module _ (b d : List ℕ) (fits : length (gapless_of b) ≤ length d) where
  -- the count, the pairs and the parts, one after the other
  pub gapless-written : with_parts b (with_pairs b (set d 0 (part_count b))) ≡ written 0 (gapless_of b) d
  gapless-written =
      let x = pairs_of b in
      let j = joined_of b in
      let n : 1 + length x ≡ 1 + 4 * part_count b = omega (arith, pairs-length (1 + 4 * part_count b) (parts_of b), parts_length b 0 (part_count b)) in
      let s : Appended d d 0 (part_count b ∷ x ++ j) (part_count b ∷ x ++ j) = record { front = []; front_length = refl; goes_on = refl; holds = refl } in
      let w = appended_part x (appended_byte (part_count b) s (omega (arith, directory-fits b d fits))) in
      appended_last j (subst (λ (k : ℕ). Appended d (written 1 x (set d 0 (part_count b))) k j (part_count b ∷ x ++ j)) n w)
      ∙ ap (λ (g : List ℕ). g ++ drop (length g) d) (sym (gapless_parts b))
      ∙ ap (λ (n : ℕ). gapless_of b ++ drop n d) (sym (zero-add (length (gapless_of b))))

  pub case_written : (e f : List ℕ) → e ≡ with_pairs b (set d 0 (part_count b)) → f ≡ with_parts b e → f ≡ written 0 (gapless_of b) d
  case_written e f x y = y ∙ rw x gapless-written
