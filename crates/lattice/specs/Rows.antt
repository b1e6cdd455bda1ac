-- The words of an order, from its bytes row by row. Rests on theory's Lists and Loop, elements' Bits.
--   Bytes: the order's bytes stand in a list, each 0 or 1; down_in: the word of the elements at or below one, by the bytes
--   Rowed: one row is added to the words; rowed_none, rowed_more, rowed_all: its loop
--   Down: the words of the first rows; down_none, down_more, down_all: the loop over the rows
--   row_inside: where a row stands
--   row_entry, rest_entry: the bytes of a slice; rowed_slice, bytes_slice, down_slice: a row, the bytes and the words of the whole by those of a slice
use Rattle.std.specs.Prelude.{ℕ, zero, suc, ◌+◌, ◌*◌, ◌-◌, ◌%◌, ◌^◌, ◌≤◌, ◌<◌, ◌≡◌, refl, Bool, List, eqb, length, get_or, set, drop}
use Rattle.std.proofs.Common.{sym, ap, ◌∙◌, ⊎_elim, le_refl, not-suc-le-zero, suc-mul, mul-le-mul_right, eq-or-lt_of_le, arith, get_or-set_same, get_or-set_other}
use Rattle.std.proofs.lemmas.List.{get_or-take, get_or-drop, take_all, length-drop}
use Rattle.std.specs.Int.Bits.{bit_or}
use Rattle.std.specs.List.{slice_range}
use Rattle.theory.specs.Simulation.{indicator}
use Rattle.theory.specs.Lists.{Filled}
use Rattle.elements.specs.Bits.{bits, bits_cong, bits_begin, bits_more}

-- the bytes of an order of n elements stand in s from `from` on, row by row
pub record Bytes (s : List ℕ) (from n : ℕ) : Type 0 where
  pub fits : from + n * n ≤ length s
  pub small : (i : ℕ) → i < n * n → get_or s (from + i) 0 < 2

-- byte (b, a), as a test
abbrev pub order_in : List ℕ → ℕ → ℕ → ℕ → ℕ → Bool
order_in s from n a b = eqb (get_or s (from + b * n + a) 0) 1

-- the elements at or below a
abbrev pub down_in : List ℕ → ℕ → ℕ → ℕ → ℕ
down_in s from n a = bits n (order_in s from n a)

-- the words out are those of `before`, the first n of them with bit i set where the byte is 1
pub record Rowed (s : List ℕ) (at i n : ℕ) (before out : List ℕ) : Type 0 where
  pub set : (j : ℕ) → j < n → get_or out j 0 ≡ bit_or (get_or before j 0) ((get_or s (at + j) 0 * 2 ^ i) % 2 ^ 64)
  pub others_unchanged : (j : ℕ) → n ≤ j → get_or out j 0 ≡ get_or before j 0

module _ {s : List ℕ} {at i : ℕ} {before : List ℕ} where
  pub rowed_none : Rowed s at i 0 before before
  rowed_none = record { set = λ j l. absurd (not-suc-le-zero l); others_unchanged = λ j l. refl }

  pub rowed_more : {q v : ℕ} {out : List ℕ} → Rowed s at i q before out → q < length out → v ≡ bit_or (get_or out q 0) ((get_or s (at + q) 0 * 2 ^ i) % 2 ^ 64) → Rowed s at i (q + 1) before (set out q v)
  rowed_more {q} {v} {out} u l e =
      record {
        set = λ j k.
            ⊎_elim (λ (z : j ≡ q). rw z (get_or-set_same out q v 0 l ∙ e ∙ ap (λ (x : ℕ). bit_or x ((get_or s (at + q) 0 * 2 ^ i) % 2 ^ 64)) (u.others_unchanged q (le_refl _))))
            (λ (z : j < q). get_or-set_other out q j v 0 (λ (y : j ≡ q). omega arith) ∙ u.set j z)
            (eq-or-lt_of_le (omega arith));
        others_unchanged = λ j k. get_or-set_other out q j v 0 (λ (y : j ≡ q). omega arith) ∙ u.others_unchanged j (omega arith);
      }

  pub rowed_all : {q n : ℕ} {out : List ℕ} → Rowed s at i q before out → q ≤ n → n ≤ q → Rowed s at i n before out
  rowed_all {q} {n} u p r = let e : q ≡ n = omega arith in rw e at u

-- row i stands within the bytes
pub row_inside : (n i : ℕ) → i < n → i * n + n ≤ n * n
row_inside n i l = omega (arith, suc-mul i n, mul-le-mul_right n l)

bit_byte : (x : ℕ) → x < 2 → x ≡ indicator (eqb x 1)
bit_byte zero l = refl
bit_byte (suc zero) l = refl
bit_byte (suc (suc x)) l = absurd (omega arith)

-- the words of the first i rows
pub record Down (s : List ℕ) (from n i : ℕ) (out : List ℕ) : Type 0 where
  pub word : (a : ℕ) → a < n → get_or out a 0 ≡ bits i (order_in s from n a)

pub down_none : {s : List ℕ} {from n : ℕ} {out : List ℕ} → Filled (λ a. 0) n out → Down s from n 0 out
down_none {s} {from} {n} u = record { word = λ a l. u.at a l ∙ sym (bits_begin (order_in s from n a)) }

pub down_more : {s : List ℕ} {from n i : ℕ} {before out : List ℕ} → Bytes s from n → n ≤ 64 → i < n → Down s from n i before → Rowed s (from + i * n) i n before out → Down s from n (i + 1) out
down_more {s} {from} {n} {i} w m l u r =
    record {
      word = λ a k.
          let x = row_inside n i l in
          let z : from + (i * n + a) ≡ from + i * n + a = omega arith in
          let b : get_or s (from + i * n + a) 0 < 2 = rw z at (w.small (i * n + a) (omega arith)) in
          r.set a k ∙ ap (λ (y : ℕ). bit_or y ((get_or s (from + i * n + a) 0 * 2 ^ i) % 2 ^ 64)) (u.word a k)
          ∙ bits_more i (order_in s from n a) _ (omega arith) (bit_byte _ b);
    }

pub down_all : {s : List ℕ} {from n i : ℕ} {out : List ℕ} → Down s from n i out → i ≤ n → n ≤ i → Filled (down_in s from n) n out
down_all {s} {from} {n} {i} {out} u p q = let e : i ≡ n = omega arith in let v : Down s from n n out = rw e at u in record { at = v.word }

-- ---- the bytes in a slice, which then stand from 0 on

row_entry : (s : List ℕ) (at n j : ℕ) → j < n → get_or (slice_range s at (at + n)) (0 + j) 0 ≡ get_or s (at + j) 0
row_entry s at n j l =
    let z : 0 + j ≡ j = omega arith in
    ap (λ (x : ℕ). get_or (slice_range s at (at + n)) x 0) z ∙ get_or-take (at + n - at) (drop at s) j 0 (omega arith) ∙ get_or-drop at s j 0

pub rowed_slice : (s : List ℕ) (at i n : ℕ) (before out : List ℕ) → Rowed (slice_range s at (at + n)) 0 i n before out → Rowed s (0 + at) i n before out
rowed_slice s at i n before out r =
    let z : 0 + at ≡ at = omega arith in
    rw z (record {
      set = λ j l. r.set j l ∙ ap (λ (x : ℕ). bit_or (get_or before j 0) ((x * 2 ^ i) % 2 ^ 64)) (row_entry s at n j l);
      others_unchanged = r.others_unchanged;
    })

rest_entry : (s : List ℕ) (from i : ℕ) → get_or (slice_range s from (length s)) i 0 ≡ get_or s (from + i) 0
rest_entry s from i = ap (λ (x : List ℕ). get_or x i 0) (take_all (length s - from) (drop from s) (omega (arith, length-drop from s))) ∙ get_or-drop from s i 0

pub bytes_slice : (s : List ℕ) (from n : ℕ) → Bytes s from n → Bytes (slice_range s from (length s)) 0 n
bytes_slice s from n w =
    let e : length (slice_range s from (length s)) ≡ length s - from =
    ap length (take_all (length s - from) (drop from s) (omega (arith, length-drop from s))) ∙ length-drop from s in
    record {
      fits = omega (arith, w.fits, e);
      small = λ i l. let z : 0 + i ≡ i = omega arith in rw (z, rest_entry s from i) (w.small i l);
    }

pub down_slice : (s : List ℕ) (from n : ℕ) (out : List ℕ) → Filled (down_in (slice_range s from (length s)) 0 n) n out → Filled (down_in s from n) n out
down_slice s from n out f = record { at = λ a l. f.at a l ∙ bits_cong n _ _ (λ i k. ap (λ (v : ℕ). eqb v 1) (entry a i)) }
  where
    entry : (a i : ℕ) → get_or (slice_range s from (length s)) (0 + i * n + a) 0 ≡ get_or s (from + i * n + a) 0
    entry a i = let z : from + (0 + i * n + a) ≡ from + i * n + a = omega arith in rest_entry s from (0 + i * n + a) ∙ ap (λ (j : ℕ). get_or s j 0) z
