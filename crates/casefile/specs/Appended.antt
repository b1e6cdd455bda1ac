-- Bytes that are written one after the other into a buffer: what stands so far, and what is still to come. Rests on Gapless and Steps.
--   Appended: the first bytes of a buffer are written, and with the rest they are a whole; its laws are appended_start, -length,
--     -byte, -part, -done, -last, -u16
--   copied, pair_put: a copy byte by byte, and a pair by two u16 numbers
use Rattle.std.specs.Prelude.{ℕ, suc, ◌+◌, ◌*◌, ◌/◌, ◌%◌, ◌≤◌, ◌<◌, ◌≡◌, refl, List, [], ◌∷◌, ◌++◌, length, get_or, take, drop, set}
use Rattle.std.proofs.Common.{sym, subst, ap, ap₂, ◌∙◌, append_assoc, append-nil, add-one, arith, length-append, length-drop, take-append-drop, length-take-le, take_at, drop-cons, drop-drop}
use Rattle.std.proofs.Math.Seq.{take-length, drop-append-add, paste}
use Rattle.std.proofs.lemmas.List.{set_at}
use Rattle.theory.specs.Lists.{written}
use Rattle.casefile.specs.Gapless.{u16_then}
use Rattle.casefile.specs.Steps.{with_u16, with_pair}

-- d was the buffer at first, out is it now. The first `at` bytes are written; with `rest` after them they are `whole`
pub record Appended (d out : List ℕ) (at : ℕ) (rest whole : List ℕ) : Type 0 where
  pub front : List ℕ
  pub front_length : length front ≡ at
  pub goes_on : front ++ rest ≡ whole
  pub holds : out ≡ front ++ drop at d

pub appended_start : (d : List ℕ) (at : ℕ) (rest : List ℕ) → at ≤ length d → Appended d d at rest (take at d ++ rest)
appended_start d at rest l =
    record { front = take at d; front_length = length-take-le at d l; goes_on = refl; holds = sym (take-append-drop at d) }

module _ {d out rest whole : List ℕ} {at : ℕ} where
  pub appended_length : Appended d out at rest whole → at ≤ length d → length out ≡ length d
  appended_length w l = ap length w.holds ∙ simp (length-append, length-drop) (omega (arith, w.front_length))

  pub appended_byte : (x : ℕ) → Appended d out at (x ∷ rest) whole → at < length d → Appended d (set out at x) (at + 1) rest whole
  appended_byte x w l =
      record {
        front = w.front ++ (x ∷ []);
        front_length = omega (arith, length-append w.front (x ∷ []), w.front_length);
        goes_on = append_assoc w.front (x ∷ []) rest ∙ w.goes_on;
        holds =
            ap (λ (o : List ℕ). set o at x) (w.holds ∙ ap (λ (o : List ℕ). w.front ++ o) (drop-cons d at 0 l))
            ∙ set_at w.front (get_or d at 0) (drop (suc at) d) x at w.front_length
            ∙ sym (append_assoc w.front (x ∷ []) (drop (suc at) d))
            ∙ rw add-one refl;
      }

  pub appended_part : (p : List ℕ) → Appended d out at (p ++ rest) whole → Appended d (written at p out) (at + length p) rest whole
  appended_part p w =
      record {
        front = w.front ++ p;
        front_length = omega (arith, length-append w.front p, w.front_length);
        goes_on = append_assoc w.front p rest ∙ w.goes_on;
        holds =
            ap₂ ◌++◌
            (ap (λ (f : List ℕ). f ++ p) (ap (take at) w.holds ∙ take_at w.front (drop at d) at w.front_length))
            (ap (drop (at + length p)) w.holds
            ∙ rw (← w.front_length) (drop-append-add w.front (drop (length w.front) d) (length p) ∙ drop-drop (length p) (length w.front) d));
      }

pub appended_done : {d out whole : List ℕ} {at : ℕ} → Appended d out at [] whole → out ≡ whole ++ drop (length whole) d
appended_done {d} {out} {whole} w =
    let e : w.front ≡ whole = sym (append-nil w.front) ∙ w.goes_on in
    w.holds ∙ ap₂ (λ (f : List ℕ) (n : ℕ). f ++ drop n d) e (sym w.front_length ∙ ap length e)

pub appended_last : {d out whole : List ℕ} {at : ℕ} (p : List ℕ) → Appended d out at p whole → written at p out ≡ whole ++ drop (length whole) d
appended_last {d} {out} {whole} {at} p w = appended_done (appended_part p (subst (λ (r : List ℕ). Appended d out at r whole) (sym (append-nil p)) w))

-- a copy, byte by byte, that has come to its end
pub copied : (d : List ℕ) (at : ℕ) (s : List ℕ) (j : ℕ) → j ≤ length s → length s ≤ j → paste d at s j ≡ written at s d
copied d at s j l m = let e : j ≡ length s = omega arith in rw (e, take-length s) refl

-- a pair is written by two u16 numbers
pub pair_put : (d e f : List ℕ) (i u v start size : ℕ) → u ≡ i → v ≡ i → e ≡ with_u16 d (1 + 4 * u) start → f ≡ with_u16 e (3 + 4 * v) size → f ≡ with_pair d i start size
pair_put d e f i u v start size p q x y = y ∙ rw (x, p, q) refl

-- a u16 number is written by two stores
pub appended_u16 : {d out rest whole : List ℕ} {at : ℕ} (x : ℕ) → Appended d out at (u16_then x rest) whole → at + 2 ≤ length d → Appended d (with_u16 out at x) (at + 2) rest whole
appended_u16 {d} {out} {rest} {whole} {at} x w l =
    let e : at + 1 + 1 ≡ at + 2 = omega arith in
    rw e at (appended_byte (x / 256) (appended_byte (x % 256) w (omega arith)) (omega arith))
