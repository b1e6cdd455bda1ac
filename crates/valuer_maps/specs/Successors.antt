-- The successors of a state as a row of bytes, and that AX and EX over them are those over all states. Rests on Code, theory's Loop,
-- Part, Simulation and TestLaws, elements' Words, Folds and Laws.
--   leads, leads_to: a transition that is not passed over; list_bytes: how many bytes there are
--   RowListed: a row has the states that pass a test, in order; row_few, row_below: how many there are at most, and each below n; row_of, row_put: where the row stands
--   ListedSoFar, listed_none, listed_more, listed_all: what the loop that writes a row has done so far
--   RowsListed, SuccessorsOf, rows-listed_none, rows-listed_more, rows-listed_all: all rows
--   all_placed, some_placed, next_listed: AX and EX from a row
--   RowOf, row_first: a row as a list of its own
use Prim.Native.Nat.{ℕ, zero, suc, ◌+◌, ◌*◌, ◌≤◌, ◌<◌}
use Rattle.std.specs.Prelude.{◌≡◌, Bool, not, ◌||◌, List, eqb, length, get_or, set, take, ◌++◌}
use Rattle.std.proofs.Math.Path.{refl, sym, ap, ap₂}
use Rattle.std.proofs.Common.{◌∙◌, ⊎_elim, not-suc-le-zero, eq-or-lt_of_le, le_refl, arith, eqb-true, length-set, get_or-set_same, get_or-set_other}
use Rattle.std.proofs.lemmas.List.{get_or-take, get_or_append_left, get_or-append-add, length-take-le}
use Rattle.std.proofs.Math.Bool.{true, false}
use Rattle.std.specs.Int.Bits.{bit_and, bit_or, and_zero_l, or_zero_r}
use Rattle.theory.specs.Loop.{fold, count_none, count_more, indicator_most}
use Rattle.theory.specs.Part.{model_of}
use Rattle.theory.specs.Simulation.{indicator, count}
use Rattle.theory.specs.TestLaws.{false_true}
use Rattle.elements.specs.Words.{code_in, negated_code_in}
use Rattle.elements.specs.declared.Lattice.{Lattice}
use Rattle.elements.specs.Laws.{within-refl}
use Rattle.elements.proofs.Folds.{fold_within, top_same}
use Rattle.valuer_maps.specs.Code.{join_or_meet_code, all_next_code, some_next_code, first_code, step_code, next_code}

-- Of a transition's value e: it is not passed over, as it would be where its code is 0 and that of its complement the top's.
abbrev pub leads : List ℕ → ℕ → ℕ → Bool
leads w top e = not (eqb (code_in w e) 0) || not (eqb (negated_code_in w e) top)

-- that from q to r
abbrev pub leads_to : List ℕ → ℕ → List ℕ → ℕ → ℕ → Bool
leads_to w top m q r = leads w top ((model_of m).transition q r)

-- how many bytes the rows of all states have, 65 to a row
abbrev pub list_bytes : ℕ
list_bytes = 4160

-- ---- counting

count-below : (n : ℕ) (p : ℕ → Bool) → count n p ≤ n
unfolding count
count-below zero p = le_refl _
count-below (suc n) p = omega (arith, count-below n p, indicator_most (p n))

-- one that passes is counted after it
count-after : (n : ℕ) (p : ℕ → Bool) (r : ℕ) → r < n → p r ≡ true → count r p < count n p
unfolding count
count-after zero p r l e = absurd (not-suc-le-zero l)
count-after (suc n) p r l e =
    ⊎_elim
    (λ (z : r ≡ n). let k : indicator (p n) ≡ 1 = ap indicator (ap p (sym z) ∙ e) in rw z (omega (arith, k)))
    (λ (z : r < n). omega (arith, count-after n p r z e))
    (eq-or-lt_of_le (omega arith))

-- ---- a row

-- From `at` on stand how many of the first n states pass the test, then those that do, in order.
pub record RowListed (p : ℕ → Bool) (n at : ℕ) (xs : List ℕ) : Type 0 where
  pub count_is : get_or xs at 0 ≡ count n p
  pub listed : (r : ℕ) → r < n → p r ≡ true → get_or xs (at + 1 + count r p) 0 ≡ r
  pub below : (i : ℕ) → i < count n p → get_or xs (at + 1 + i) 0 < n

-- there are at most n, each below n
pub row_few : {p : ℕ → Bool} {n at : ℕ} {xs : List ℕ} → RowListed p n at xs → get_or xs at 0 ≤ n
row_few {p} {n} h = rw h.count_is (count-below n p)

pub row_below : {p : ℕ → Bool} {n at : ℕ} {xs : List ℕ} → RowListed p n at xs → (i : ℕ) → i < get_or xs at 0 → get_or xs (at + 1 + i) 0 < n
row_below h i l = h.below i (omega (arith, h.count_is))

-- where the row stands, by the state's number
pub row_of : {p : ℕ → Bool} {n q a : ℕ} {xs : List ℕ} → RowListed p n (q * 65) xs → a ≡ q → RowListed p n (a * 65) xs
row_of h e = rw e h

-- bytes that are the same have the same row
row_kept : {p : ℕ → Bool} {n at : ℕ} {xs ys : List ℕ} → RowListed p n at xs → n ≤ 64 → ((i : ℕ) → i < at + 65 → get_or ys i 0 ≡ get_or xs i 0) → RowListed p n at ys
row_kept {p} {n} {at} h few same =
    record {
      count_is = same at (omega arith) ∙ h.count_is;
      listed = λ r l e. same (at + 1 + count r p) (omega (arith, count-below r p)) ∙ h.listed r l e;
      below = λ i l. rw (same (at + 1 + i) (omega (arith, count-below n p))) (h.below i l);
    }

-- what stands there after the first r states, of which k pass
pub record ListedSoFar (p : ℕ → Bool) (at r k : ℕ) (before xs : List ℕ) : Type 0 where
  pub count_is : k ≡ count r p
  pub listed : (s : ℕ) → s < r → p s ≡ true → get_or xs (at + 1 + count s p) 0 ≡ s
  pub below : (i : ℕ) → i < k → get_or xs (at + 1 + i) 0 < r
  pub earlier : (i : ℕ) → i < at → get_or xs i 0 ≡ get_or before i 0
  pub same_length : length xs ≡ length before

module _ {p : ℕ → Bool} {at : ℕ} {before : List ℕ} where
  pub listed_none : ListedSoFar p at 0 0 before before
  listed_none =
      record {
        count_is = sym (count_none p);
        listed = λ s l e. absurd (not-suc-le-zero l);
        below = λ i l. absurd (not-suc-le-zero l);
        earlier = λ i l. refl;
        same_length = refl;
      }

  -- one state more: it is written, and stays where it passes
  pub listed_more : {r k d : ℕ} {xs : List ℕ} → ListedSoFar p at r k before xs → at + 1 + k < length xs → d ≡ indicator (p r) → ListedSoFar p at (r + 1) (k + d) before (set xs (at + 1 + k) r)
  listed_more {r} {k} {d} {xs} h fits e =
      let z : count (r + 1) p ≡ k + d = count_more r p ∙ ap₂ ◌+◌ (sym h.count_is) (sym e) in
      record {
        count_is = sym z;
        listed = λ s l t.
            ⊎_elim
            (λ (c : s ≡ r). let f : at + 1 + count s p ≡ at + 1 + k = ap (λ (n : ℕ). at + 1 + count n p) c ∙ ap (λ (n : ℕ). at + 1 + n) (sym h.count_is) in rw f (get_or-set_same xs (at + 1 + k) r 0 fits ∙ sym c))
            (λ (c : s < r). get_or-set_other xs (at + 1 + k) (at + 1 + count s p) r 0 (λ (z : at + 1 + count s p ≡ at + 1 + k). omega (arith, count-after r p s c t, h.count_is)) ∙ h.listed s c t)
            (eq-or-lt_of_le (omega arith));
        below = λ i l.
            ⊎_elim
            (λ (c : i ≡ k). rw (c, get_or-set_same xs (at + 1 + k) r 0 fits) (omega arith))
            (λ (c : i < k). rw (get_or-set_other xs (at + 1 + k) (at + 1 + i) r 0 (λ (z : at + 1 + i ≡ at + 1 + k). omega arith)) (omega (arith, h.below i c)))
            (eq-or-lt_of_le (omega (arith, e, indicator_most (p r))));
        earlier = λ i l. get_or-set_other xs (at + 1 + k) i r 0 (λ (z : i ≡ at + 1 + k). omega arith) ∙ h.earlier i l;
        same_length = length-set xs (at + 1 + k) r ∙ h.same_length;
      }

  -- all states, and their number before them
  pub listed_all : {r n k : ℕ} {xs : List ℕ} → ListedSoFar p at r k before xs → r ≤ n → n ≤ r → at < length xs → RowListed p n at (set xs at k)
  listed_all {r} {n} {k} {xs} h a b fits =
      let e : r ≡ n = omega arith in
      rw (← e)
      (record {
        count_is = get_or-set_same xs at k 0 fits ∙ h.count_is;
        listed = λ s l t. get_or-set_other xs at (at + 1 + count s p) k 0 (λ (z : at + 1 + count s p ≡ at). omega arith) ∙ h.listed s l t;
        below = λ i l. rw (get_or-set_other xs at (at + 1 + i) k 0 (λ (z : at + 1 + i ≡ at). omega arith)) (h.below i (omega (arith, h.count_is)));
      })

-- a row that stands at the front of ys stands behind the front of xs where ys is written there
pub row_put : {p : ℕ → Bool} {n : ℕ} {ys : List ℕ} (xs zs : List ℕ) (at : ℕ) → RowListed p n 0 ys → n ≤ 64 → 65 ≤ length ys → at ≤ length xs → RowListed p n at (take at xs ++ (ys ++ zs))
row_put {p} {n} {ys} xs zs at h few long fits =
    let all = take at xs ++ (ys ++ zs) in
    let there : (j i : ℕ) → j ≡ at + i → i < 65 → get_or all j 0 ≡ get_or ys i 0 =
    λ j i e b. ap (λ (k : ℕ). get_or all k 0) (e ∙ ap (λ (k : ℕ). k + i) (sym (length-take-le at xs fits))) ∙ get_or-append-add (take at xs) (ys ++ zs) i 0 ∙ get_or_append_left ys zs 0 i (omega arith) in
    record {
      count_is = there at 0 (omega arith) (omega arith) ∙ h.count_is;
      listed = λ r l e. there (at + 1 + count r p) (1 + count r p) (omega arith) (omega (arith, count-below r p)) ∙ h.listed r l e;
      below = λ i l. rw (there (at + 1 + i) (1 + i) (omega arith) (omega (arith, count-below n p))) (h.below i l);
    }

-- ---- all rows

-- row q of 65 bytes has the successors of q, for the first n states
pub record RowsListed (w : List ℕ) (top : ℕ) (m : List ℕ) (n : ℕ) (xs : List ℕ) : Type 0 where
  pub at : (q : ℕ) → q < n → RowListed (leads_to w top m q) (get_or m 0 0) (q * 65) xs

-- of all states of m, over a lattice whose top is that of l
abbrev pub SuccessorsOf : List ℕ → Lattice → List ℕ → List ℕ → Type 0
SuccessorsOf w l m xs = RowsListed w (code_in w l.top.0) m (get_or m 0 0) xs

pub rows-listed_none : {w : List ℕ} {top : ℕ} {m xs : List ℕ} → RowsListed w top m 0 xs
rows-listed_none = record { at = λ q l. absurd (not-suc-le-zero l) }

pub rows-listed_more : {w : List ℕ} {top : ℕ} {m : List ℕ} {n : ℕ} {xs ys : List ℕ} → RowsListed w top m n xs → get_or m 0 0 ≤ 64 → ((i : ℕ) → i < n * 65 → get_or ys i 0 ≡ get_or xs i 0) → RowListed (leads_to w top m n) (get_or m 0 0) (n * 65) ys → RowsListed w top m (n + 1) ys
rows-listed_more {n = n} h few same row =
    record {
      at = λ q l.
          ⊎_elim
          (λ (e : q ≡ n). rw e row)
          (λ (e : q < n). row_kept (h.at q e) few (λ i k. same i (omega arith)))
          (eq-or-lt_of_le (omega arith));
    }

pub rows-listed_all : {w : List ℕ} {top : ℕ} {m : List ℕ} {i n : ℕ} {xs : List ℕ} → RowsListed w top m i xs → i ≤ n → n ≤ i → RowsListed w top m n xs
rows-listed_all {i = i} {n = n} u p q = let e : i ≡ n = omega arith in rw e at u

-- ---- a fold over a row is that over all states, where a state that does not pass changes nothing

module _ (g : ℕ → ℕ → ℕ) (start : ℕ) (f : ℕ → ℕ) (p : ℕ → Bool) (place : ℕ → ℕ) where
  picked : (n : ℕ) → ((r : ℕ) → r < n → p r ≡ true → place (count r p) ≡ r) → ((r : ℕ) → r < n → p r ≡ false → g (fold g start f r) (f r) ≡ fold g start f r) → fold g start (λ i. f (place i)) (count n p) ≡ fold g start f n
  unfolding fold count
  picked zero h same = refl
  picked (suc n) h same = go (p n) refl (picked n (λ r l. h r (omega arith)) (λ r l. same r (omega arith)))
    where
      go : (b : Bool) → p n ≡ b → fold g start (λ i. f (place i)) (count n p) ≡ fold g start f n → fold g start (λ i. f (place i)) (count n p + indicator (p n)) ≡ g (fold g start f n) (f n)
      go true e prior =
          let j : indicator (p n) ≡ 1 = ap indicator e in
          let k : count n p + indicator (p n) ≡ suc (count n p) = omega (arith, j) in
          ap (fold g start (λ i. f (place i))) k ∙ ap₂ g prior (ap f (h n (le_refl _) e))
      go false e prior =
          let j : indicator (p n) ≡ 0 = ap indicator e in
          let k : count n p + indicator (p n) ≡ count n p = omega (arith, j) in
          ap (fold g start (λ i. f (place i))) k ∙ prior ∙ sym (same n (le_refl _) e)

-- a value that does not lead: both of its codes
not_or : (a b : Bool) → (not a || not b) ≡ false → (a ≡ true) × (b ≡ true)
not_or true true e = (refl, refl)
not_or true false e = absurd (false_true e refl)
not_or false b e = absurd (false_true e refl)

-- AX and EX over a row of c states, `place` being the number of each
module _ (w : List ℕ) (top : ℕ) (m x : List ℕ) (q : ℕ) (place : ℕ → ℕ) (c : ℕ) (count_is : c ≡ count (get_or m 0 0) (leads_to w top m q))
    (listed : (r : ℕ) → r < get_or m 0 0 → leads_to w top m q r ≡ true → place (count r (leads_to w top m q)) ≡ r)
  where
    pub all_placed : fold bit_and top (λ i. bit_or (negated_code_in w ((model_of m).transition q (place i))) (get_or x (place i) 0)) c ≡ all_next_code w top m x q
    all_placed =
        ap (fold bit_and top (λ i. bit_or (negated_code_in w ((model_of m).transition q (place i))) (get_or x (place i) 0))) count_is
        ∙ picked bit_and top (λ r. bit_or (negated_code_in w ((model_of m).transition q r)) (get_or x r 0)) (leads_to w top m q) place (get_or m 0 0) listed
        (λ r l e.
        let z = eqb-true (negated_code_in w ((model_of m).transition q r)) top (not_or (eqb (code_in w ((model_of m).transition q r)) 0) (eqb (negated_code_in w ((model_of m).transition q r)) top) e).1 in
        rw z (sym (top_same (fold_within (within-refl top) (λ r. bit_or (negated_code_in w ((model_of m).transition q r)) (get_or x r 0)) r) (get_or x r 0))))

    pub some_placed : fold bit_or 0 (λ i. bit_and (code_in w ((model_of m).transition q (place i))) (get_or x (place i) 0)) c ≡ some_next_code w m x q
    some_placed =
        ap (fold bit_or 0 (λ i. bit_and (code_in w ((model_of m).transition q (place i))) (get_or x (place i) 0))) count_is
        ∙ picked bit_or 0 (λ r. bit_and (code_in w ((model_of m).transition q r)) (get_or x r 0)) (leads_to w top m q) place (get_or m 0 0) listed
        (λ r l e.
        let z = eqb-true (code_in w ((model_of m).transition q r)) 0 (not_or (eqb (code_in w ((model_of m).transition q r)) 0) (eqb (negated_code_in w ((model_of m).transition q r)) top) e).0 in
        rw z (rw (and_zero_l (get_or x r 0)) (or_zero_r (fold bit_or 0 (λ r. bit_and (code_in w ((model_of m).transition q r)) (get_or x r 0)) r))))

module _ (w : List ℕ) (top : ℕ) (m x : List ℕ) (q : ℕ) {at : ℕ} {xs : List ℕ} (h : RowListed (leads_to w top m q) (get_or m 0 0) at xs) where
  -- state i of the row
  abbrev nth : ℕ → ℕ
  nth i = get_or xs (at + 1 + i) 0

  -- the one or the other
  pub next_listed : (all : Bool) → fold (join_or_meet_code (not all)) (first_code top all) (λ i. step_code all w ((model_of m).transition q (nth i)) (get_or x (nth i) 0)) (get_or xs at 0) ≡ next_code w top m all x q
  unfolding join_or_meet_code first_code step_code next_code
  next_listed true = all_placed w top m x q nth (get_or xs at 0) h.count_is h.listed
  next_listed false = some_placed w top m x q nth (get_or xs at 0) h.count_is h.listed

-- ---- a row as a list of its own

-- the states below n that pass the test, in order
pub record RowOf (p : ℕ → Bool) (n : ℕ) (row : List ℕ) : Type 0 where
  pub count_is : length row ≡ count n p
  pub listed : (r : ℕ) → r < n → p r ≡ true → get_or row (count r p) 0 ≡ r
  pub below : (i : ℕ) → i < length row → get_or row i 0 < n

-- it is the first bytes of a list that goes on from where the row's states stand
pub row_first : {p : ℕ → Bool} {n at : ℕ} {xs : List ℕ} (ys : List ℕ) → RowListed p n at xs → get_or xs at 0 ≤ length ys → ((i : ℕ) → i < get_or xs at 0 → get_or ys i 0 ≡ get_or xs (at + 1 + i) 0)
    → RowOf p n (take (get_or xs at 0) ys)
row_first {p} {n} {at} {xs} ys h fits same =
    let k = get_or xs at 0 in
    let long : length (take k ys) ≡ k = length-take-le k ys fits in
    let nth : (i : ℕ) → i < k → get_or (take k ys) i 0 ≡ get_or xs (at + 1 + i) 0 = λ i b. get_or-take k ys i 0 b ∙ same i b in
    record {
      count_is = long ∙ h.count_is;
      listed = λ r l e. nth (count r p) (omega (arith, h.count_is, count-after n p r l e)) ∙ h.listed r l e;
      below = λ i b. rw (nth i (omega (arith, long))) (row_below h i (omega (arith, long)));
    }
