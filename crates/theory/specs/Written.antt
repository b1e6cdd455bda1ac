-- Bytes that are written at a place of a buffer, and the laws of it. Rests on Loop.
--   written_none, written_byte, written_turn: nothing, one byte more, and one turn more of a loop that writes f 0, f 1, ..
--   written-length, written_at, written-before, written_after: the length, what is written, and what is unchanged
--   written_all: what holds of every byte written and of every byte before, holds of every byte
--   Slice: what a loop that writes f 0, f 1, .. has written; slice_none, slice_more, slice_next, slice_all: its begin, turn and end; slice_at: a byte of it
use Rattle.std.specs.Prelude.{ℕ, suc, ◌+◌, ◌-◌, ◌≤◌, ◌<◌, ◌≡◌, refl, Bool, true, false, List, [], ◌∷◌, ◌++◌, ltb, length, get_or, take, drop, set}
use Rattle.std.proofs.Math.Path.{sym}
use Rattle.std.proofs.Common.{ap, ap₂, ◌∙◌, append_assoc, append-nil, arith, ltb-true, ltb-false, length-append, length-drop, take-append-drop, length-take-le, drop-cons, get_or-append-add, get_or-take, get_or-drop}
use Rattle.std.proofs.Math.ListN.{get_or-append}
use Rattle.std.proofs.Math.Seq.{append_snoc}
use Rattle.std.proofs.lemmas.List.{set_at}
use Rattle.theory.specs.Loop.{tab_at, tab-length, tab_more}
use Rattle.theory.specs.Lists.{tab}
use Rattle.theory.specs.Lists.{written}

pub written_none : (at : ℕ) (out : List ℕ) → written at [] out ≡ out
written_none at out = let e : at + 0 ≡ at = omega arith in ap₂ ◌++◌ (append-nil (take at out)) (ap (λ (n : ℕ). drop n out) e) ∙ take-append-drop at out

module _ (at : ℕ) (s out : List ℕ) where
  front_length : at ≤ length out → length (take at out ++ s) ≡ at + length s
  front_length h = omega (arith, length-append (take at out) s, length-take-le at out h)

  -- one byte more, after s
  pub written_byte : (v : ℕ) → at + length s < length out → set (written at s out) (at + length s) v ≡ written at (s ++ (v ∷ [])) out
  written_byte v h =
      let p = take at out ++ s in
      let k : suc (at + length s) ≡ at + length (s ++ (v ∷ [])) = omega (arith, length-append s (v ∷ [])) in
      ap (λ (r : List ℕ). set (p ++ r) (at + length s) v) (drop-cons out (at + length s) 0 h)
      ∙ set_at p _ _ v (at + length s) (front_length (omega arith))
      ∙ sym (append_snoc p v (drop (suc (at + length s)) out))
      ∙ ap₂ ◌++◌ (append_assoc (take at out) s (v ∷ [])) (ap (λ (n : ℕ). drop n out) k)

  module _ (fits : at + length s ≤ length out) where
    pub written-length : length (written at s out) ≡ length out
    written-length = simp (length-append, length-drop) (omega (arith, length-take-le at out (omega arith)))

    -- what is written
    pub written_at : (i : ℕ) → i < length s → get_or (written at s out) (at + i) 0 ≡ get_or s i 0
    written_at i l =
        let t = length-take-le at out (omega arith) in
        get_or-append (take at out ++ s) (drop (at + length s) out) 0 (at + i) (omega (arith, front_length (omega arith)))
        ∙ ap (λ (n : ℕ). get_or (take at out ++ s) (n + i) 0) (sym t)
        ∙ get_or-append-add (take at out) s i 0

    -- what is unchanged
    pub written-before : (j : ℕ) → j < at → get_or (written at s out) j 0 ≡ get_or out j 0
    written-before j l =
        get_or-append (take at out ++ s) (drop (at + length s) out) 0 j (omega (arith, front_length (omega arith)))
        ∙ get_or-append (take at out) s 0 j (omega (arith, length-take-le at out (omega arith)))
        ∙ get_or-take at out j 0 l

    pub written_after : (j : ℕ) → at + length s ≤ j → get_or (written at s out) j 0 ≡ get_or out j 0
    written_after j l =
        let e : length (take at out ++ s) + (j - (at + length s)) ≡ j = omega (arith, front_length (omega arith)) in
        let f : at + length s + (j - (at + length s)) ≡ j = omega arith in
        ap (λ (n : ℕ). get_or (written at s out) n 0) (sym e)
        ∙ get_or-append-add (take at out ++ s) (drop (at + length s) out) (j - (at + length s)) 0
        ∙ get_or-drop (at + length s) out (j - (at + length s)) 0
        ∙ ap (λ (n : ℕ). get_or out n 0) f

    -- what holds of every byte written, and of every byte below b before, holds of every byte below b after
    pub written_all : (P : ℕ → Type 0) (b : ℕ) → ((i : ℕ) → i < length s → P (get_or s i 0)) → ((j : ℕ) → j < b → P (get_or out j 0)) → (j : ℕ) → j < b → P (get_or (written at s out) j 0)
    written_all P b new old j l = go (ltb j at) refl (ltb j (at + length s)) refl
      where
        go : (x : Bool) → ltb j at ≡ x → (y : Bool) → ltb j (at + length s) ≡ y → P (get_or (written at s out) j 0)
        go true p y q = rw (written-before j (ltb-true _ _ p)) (old j l)
        go false p true q =
            let e : at + (j - at) ≡ j = omega (arith, ltb-false j at p) in
            let w = written_at (j - at) (omega (arith, ltb-true j (at + length s) q, ltb-false j at p)) in
            rw (ap (λ (n : ℕ). get_or (written at s out) n 0) (sym e) ∙ w) (new (j - at) (omega (arith, ltb-true j (at + length s) q, ltb-false j at p)))
        go false p false q = rw (written_after j (ltb-false _ _ q)) (old j l)

-- a loop that writes f 0, f 1, .. from the place `at` on: one turn more
pub written_turn : (at : ℕ) (f : ℕ → ℕ) (q : ℕ) (out : List ℕ) → at + q < length out → set (written at (tab f q 0) out) (at + q) (f q) ≡ written at (tab f (q + 1) 0) out
written_turn at f q out h =
    let n = tab-length f q 0 in
    ap (λ (k : ℕ). set (written at (tab f q 0) out) (at + k) (f q)) (sym n)
    ∙ written_byte at (tab f q 0) out (f q) (omega (arith, n))
    ∙ ap (λ (s : List ℕ). written at s out) (sym (tab_more f q))

-- a loop has written f 0, .., f (n - 1) from the place `at` on. A record, so that a goal shows the rule and n
pub record Slice (at : ℕ) (f : ℕ → ℕ) (n : ℕ) (before out : List ℕ) : Type 0 where
  pub out_is : out ≡ written at (tab f n 0) before

module _ {at : ℕ} {f : ℕ → ℕ} {before : List ℕ} where
  pub slice_none : Slice at f 0 before before
  unfolding tab
  slice_none = record { out_is = sym (written_none at before) }

  pub slice_more : {n v : ℕ} {out : List ℕ} → Slice at f n before out → at + n < length before → v ≡ f n → Slice at f (n + 1) before (set out (at + n) v)
  slice_more {n} {v} {out} u l e = record { out_is = rw (u.out_is, e) (written_turn at f n before l) }

  pub slice_all : {i n : ℕ} {out : List ℕ} → Slice at f i before out → i ≤ n → n ≤ i → out ≡ written at (tab f n 0) before
  slice_all {i} {n} u p q = let e : i ≡ n = omega arith in rw e at u.out_is

-- one turn more at the front of out
pub slice_next : {f : ℕ → ℕ} {before : List ℕ} {n v : ℕ} {out : List ℕ} → Slice 0 f n before out → n < length before → v ≡ f n → Slice 0 f (n + 1) before (set out n v)
slice_next {n = n} {v = v} u l e =
    let z : 0 + n ≡ n = omega arith in
    let w = slice_more {v = v} u (omega arith) e in
    rw z at w

-- what is written at a place is there
pub slice_at : (at : ℕ) (f : ℕ → ℕ) (n : ℕ) (before : List ℕ) {out : List ℕ} → out ≡ written at (tab f n 0) before → at + n ≤ length before → (i : ℕ) → i < n → get_or out (at + i) 0 ≡ f i
slice_at at f n before e fits i l =
    let m = tab-length f n 0 in
    rw e (written_at at (tab f n 0) before (omega (arith, m)) i (omega (arith, m)) ∙ tab_at f n i l)
