-- Bytes that are written one after the other at a place of a buffer. Rests on Text, Decimal, theory's Lists and Written.
--   Wrote: bytes are written at a place; wrote_nothing, wrote_first, wrote_byte, wrote_copy, wrote_then: none, one, one more, a copy, more after them
--   wrote_length, wrote_within, fits_first, fits_then: the lengths, and room for two writings
--   each_none, each_more, each_cong, each-length: f 0, f 1, .. one after the other
--   each-starts, each-room, each_turn, each_done, each_buffer_length: a loop that writes these: begin, room for a turn, turn, end, the buffer's length
--   few_room, few-written, more_room, more_written: a number's digits, below 10 and from 10 on
use Rattle.std.specs.Prelude.{ℕ, zero, suc, ◌+◌, ◌*◌, ◌/◌, ◌%◌, ◌≤◌, ◌<◌, ◌≡◌, refl, Bool, true, false, List, [], ◌∷◌, ◌++◌, ltb, length, take, drop, set}
use Rattle.std.proofs.Common.{sym, ap, ap₂, ◌∙◌, append_assoc, not-suc-le-zero, suc-mul, add-one, arith, ltb-true, ltb-false, length-append, length-take-le, take_at, drop-drop}
use Rattle.std.proofs.Math.Seq.{drop-append-add, paste, take-length}
use Rattle.theory.specs.Lists.{written}
use Rattle.theory.specs.Written.{written_none, written_byte, written-length}
use Rattle.listing.specs.Text.{decimal, each}
use Rattle.listing.specs.Decimal.{decimal-few, decimal_more}

-- the bytes s are written at the place `at` of d, which became e; the place after them is next
pub record Wrote (d : List ℕ) (at : ℕ) (s e : List ℕ) (next : ℕ) : Type 0 where
  pub out_is : e ≡ written at s d
  pub next_is : next ≡ at + length s

module _ {d e : List ℕ} {at next : ℕ} {s : List ℕ} where
  pub wrote_length : Wrote d at s e next → at + length s ≤ length d → length e ≡ length d
  wrote_length w l = ap length w.out_is ∙ written-length at s d l

  -- more bytes after them
  pub wrote_then : (u : List ℕ) {f : List ℕ} {after : ℕ} → at ≤ length d → Wrote d at s e next → Wrote e next u f after → Wrote d at (s ++ u) f after
  wrote_then u {f} {after} l w v =
      let front : List ℕ = take at d ++ s in
      let n : length front ≡ next = omega (arith, length-append (take at d) s, length-take-le at d l, w.next_is) in
      let m : at + length s + length u ≡ at + length (s ++ u) = omega (arith, length-append s u) in
      record {
        out_is =
            v.out_is
            ∙ ap (λ (o : List ℕ). written next u o) w.out_is
            ∙ ap₂ ◌++◌
            (ap (λ (o : List ℕ). o ++ u) (take_at front (drop (at + length s) d) next n) ∙ append_assoc (take at d) s u)
            (ap (λ (k : ℕ). drop (k + length u) (front ++ drop (at + length s) d)) (sym n) ∙ drop-append-add front (drop (at + length s) d) (length u) ∙ drop-drop (length u) (at + length s) d ∙ ap (λ (k : ℕ). drop k d) m);
        next_is = omega (arith, v.next_is, w.next_is, length-append s u);
      }

  -- where both fit, there is room for the first; and after it for the second
  pub fits_then : (u : List ℕ) → at + length (s ++ u) ≤ length d → Wrote d at s e next → next + length u ≤ length e
  fits_then u l w = omega (arith, length-append s u, w.next_is, wrote_length w (omega (arith, length-append s u)))

-- what stands at the start of a buffer is no longer than the buffer
pub wrote_within : {d e s : List ℕ} {n : ℕ} → Wrote d 0 s e n → n ≤ length e
wrote_within {d} {e} {s} {n} w = omega (arith, w.next_is, ap length w.out_is, length-append (take 0 d ++ s) (drop (0 + length s) d), length-append (take 0 d) s)

pub fits_first : (d : List ℕ) (at : ℕ) (s u : List ℕ) → at + length (s ++ u) ≤ length d → at + length s ≤ length d
fits_first d at s u l = omega (arith, length-append s u)

-- ---- one byte after the other

-- a copy, byte by byte, that has come to its end
pub wrote_copy : (d : List ℕ) (at : ℕ) (s e : List ℕ) (j count : ℕ) → e ≡ paste d at s j → j ≤ count → count ≤ j → count ≡ length s → Wrote d at s e (at + count)
wrote_copy d at s e j count p l m n = let q : j ≡ length s = omega arith in record { out_is = p ∙ rw (q, take-length s) refl; next_is = omega arith }

-- the last byte
pub wrote_byte : {d e : List ℕ} {at next : ℕ} {s : List ℕ} (v : ℕ) → next < length d → Wrote d at s e next → Wrote d at (s ++ (v ∷ [])) (set e next v) (next + 1)
wrote_byte {d} {e} {at} {next} {s} v l w =
    record {
      out_is = ap₂ (λ (o : List ℕ) (k : ℕ). set o k v) w.out_is w.next_is ∙ written_byte at s d v (omega (arith, w.next_is));
      next_is = omega (arith, length-append s (v ∷ []), w.next_is);
    }

pub wrote_nothing : (d : List ℕ) (at : ℕ) → Wrote d at [] d at
wrote_nothing d at = record { out_is = sym (written_none at d); next_is = omega arith }

pub wrote_first : (d : List ℕ) (at v : ℕ) → at < length d → Wrote d at (v ∷ []) (set d at v) (at + 1)
wrote_first d at v l = wrote_byte v l (wrote_nothing d at)

-- ---- f 0, f 1, .. one after the other

pub each_none : (f : ℕ → List ℕ) → each 0 f ≡ []
unfolding each
each_none f = refl

pub each_more : (i : ℕ) (f : ℕ → List ℕ) → each (i + 1) f ≡ each i f ++ f i
unfolding each
each_more i f = rw add-one

each-suc : (i : ℕ) (f : ℕ → List ℕ) → each (suc i) f ≡ each i f ++ f i
unfolding each
each-suc i f = refl

pub each_cong : (n : ℕ) (f g : ℕ → List ℕ) → ((i : ℕ) → i < n → f i ≡ g i) → each n f ≡ each n g
unfolding each
each_cong zero f g h = refl
each_cong (suc n) f g h = ap₂ ◌++◌ (each_cong n f g (λ i l. h i (omega arith))) (h n (omega arith))

-- the first i + 1 of n are no longer than all n
each_most : (n i : ℕ) (f : ℕ → List ℕ) → i < n → length (each i f) + length (f i) ≤ length (each n f)
each_most zero i f l = absurd (not-suc-le-zero l)
each_most (suc n) i f l = go (λ k. each_most n i f k) (ltb i n) refl
  where
    go : (i < n → length (each i f) + length (f i) ≤ length (each n f)) → (b : Bool) → ltb i n ≡ b → length (each i f) + length (f i) ≤ length (each (suc n) f)
    go h true e = omega (arith, h (ltb-true i n e), ap length (each-suc n f), length-append (each n f) (f n))
    go h false e = let q : i ≡ n = omega (arith, ltb-false i n e) in rw q (omega (arith, ap length (each-suc n f), length-append (each n f) (f n)))

-- where each has at most k bytes
pub each-length : (n k : ℕ) (f : ℕ → List ℕ) → ((i : ℕ) → i < n → length (f i) ≤ k) → length (each n f) ≤ n * k
each-length zero k f h = omega (arith, ap length (each_none f))
each-length (suc n) k f h =
    omega (arith, ap length (each-suc n f), length-append (each n f) (f n), each-length n k f (λ i l. h i (omega arith)), h n (omega arith), suc-mul n k)

module _ (d : List ℕ) (at n : ℕ) (f : ℕ → List ℕ) (fits : at + length (each n f) ≤ length d) where
  pub each-starts : Wrote d at (each 0 f) d at
  each-starts = rw each_none (wrote_nothing d at)

  module _ (i : ℕ) (e : List ℕ) (next : ℕ) (l : i < n) (w : Wrote d at (each i f) e next) where
    pub each-room : next + length (f i) ≤ length e
    each-room = omega (arith, each_most n i f l, w.next_is, wrote_length w (omega (arith, each_most n i f l)))

    pub each_turn : (g : List ℕ) (after : ℕ) → Wrote e next (f i) g after → Wrote d at (each (i + 1) f) g after
    each_turn g after v = rw each_more (wrote_then (f i) (omega arith) w v)

  pub each_done : (i : ℕ) (e : List ℕ) (next : ℕ) → i ≤ n → n ≤ i → Wrote d at (each i f) e next → Wrote d at (each n f) e next
  each_done i e next l m w = let q : i ≡ n = omega arith in rw q at w

  pub each_buffer_length : (i : ℕ) (e : List ℕ) (next : ℕ) → i ≤ n → Wrote d at (each i f) e next → length e ≡ length d
  each_buffer_length i e next l w = go (ltb i n) refl
    where
      go : (b : Bool) → ltb i n ≡ b → length e ≡ length d
      go true q = wrote_length w (omega (arith, each_most n i f (ltb-true i n q)))
      go false q = let p : i ≡ n = omega (arith, ltb-false i n q) in wrote_length w (rw p fits)

-- ---- a number

-- a number's digits at a place: the one digit of a number below 10; else those of its tenth, then the last
module _ (d : List ℕ) (at n : ℕ) (fits : at + length (decimal n) ≤ length d) where
  pub few_room : n < 10 → at < length d
  few_room l = omega (arith, ap length (decimal-few n l))

  pub few-written : (v : ℕ) → n < 10 → v ≡ 48 + n → Wrote d at (decimal n) (set d at v) (at + 1)
  few-written v l q = rw (decimal-few n l, ← q) (wrote_first d at v (few_room l))

  pub more_room : 10 ≤ n → at + length (decimal (n / 10)) < length d
  more_room l = omega (arith, ap length (decimal_more n l), length-append (decimal (n / 10)) ((48 + n % 10) ∷ []))

  pub more_written : (e : List ℕ) (next v : ℕ) → 10 ≤ n → Wrote d at (decimal (n / 10)) e next → v ≡ 48 + n % 10 → Wrote d at (decimal n) (set e next v) (next + 1)
  more_written e next v l w q = rw (decimal_more n l, ← q) (wrote_byte v (omega (arith, more_room l, w.next_is)) w)
