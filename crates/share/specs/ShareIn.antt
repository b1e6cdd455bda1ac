-- Share by the codes of a lattice. Rests on theory's Simulation, Loop and Share, and elements' Words.
--   share_in: the term of the contract; share_in_is: it is theory's share; share_counted: from a count of entries; share_front: of the first entries;
--   byte_indicator: a test as a number;
--   per_cent-fits: a byte holds it
use Rattle.std.specs.Prelude.{ℕ, ◌<◌, ◌≤◌, ◌≡◌, refl, Bool, true, false, List, length, get_or, take}
use mir.Val.{bool_byte}
use Rattle.std.proofs.Common.{ap, ◌∙◌, arith, length-take-le, get_or-take}
use Rattle.theory.specs.Simulation.{count, indicator, per_cent, share}
use Rattle.theory.specs.Loop.{Counted, count_cong}
use Rattle.theory.proofs.Share.{per_cent_most}
use Rattle.elements.specs.declared.Lattice.{Lattice}
use Rattle.elements.specs.Words.{at_most_in, ops_in}

-- 'the per cent of shown entries at or above a given element', of the first n entries of s, with the order of the codes w
unfoldable pub share_in : List ℕ → ℕ → List ℕ → ℕ → ℕ
share_in w e s n = per_cent (count n (λ i. at_most_in w e (get_or s i 0))) n

-- it is theory's share, whatever the lattice's size, top and bottom
pub share_in_is : (w : List ℕ) (l : Lattice) (e : ℕ) (s : List ℕ) (n : ℕ) → share_in w e s n ≡ share (ops_in w l) n (λ i. get_or s i 0) e
unfolding share_in share
share_in_is w l e s n = refl

-- c entries are counted: the per cent of c
pub share_counted : (w : List ℕ) (e : ℕ) (s : List ℕ) (n c : ℕ) → Counted (λ i. at_most_in w e (get_or s i 0)) n c → per_cent c n ≡ share_in w e s n
unfolding share_in
share_counted w e s n c u = ap (λ (x : ℕ). per_cent x n) u.eq

pub byte_indicator : (b : Bool) → bool_byte b ≡ indicator b
byte_indicator true = refl
byte_indicator false = refl

-- a front of a table has the share of its first n entries
pub share_front : (w : List ℕ) (e : ℕ) (s : List ℕ) (n : ℕ) → n ≤ length s → share_in w e (take n s) (length (take n s)) ≡ share_in w e s n
unfolding share_in
share_front w e s n l =
    ap (λ (k : ℕ). per_cent (count k (λ i. at_most_in w e (get_or (take n s) i 0))) k) (length-take-le n s l)
    ∙ ap (λ (c : ℕ). per_cent c n) (count_cong n _ _ (λ i k. ap (at_most_in w e) (get_or-take n s i 0 k)))

-- a per cent fits a byte
pub per_cent-fits : {x c t : ℕ} → 0 < t → c ≤ t → x ≡ per_cent c t → x < 256
per_cent-fits {x} {c} {t} some m e = omega (arith, e, per_cent_most c t some m)
