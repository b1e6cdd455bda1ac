-- A test of every element of a list, or of a part of it: the library's `list_all` is `all_below` of the elements' places. Rests on Test and TestLaws.
--   list_all_below: of a whole list; range_all: between two places
use Rattle.std.specs.Prelude.{ℕ, zero, suc, ◌+◌, ◌-◌, ◌≤◌, ◌≡◌, refl, Bool, true, false, ◌&&◌, List, [], ◌∷◌, length, get_or, take, drop}
use Rattle.std.specs.List.{list_all, slice_range}
use Rattle.std.proofs.Common.{sym, ◌∙◌, length-drop, length-take-le, arith}
use Rattle.std.proofs.lemmas.List.{get_or-drop, get_or-take}
use Rattle.theory.specs.Test.{all_below}
use Rattle.theory.specs.TestLaws.{all_cong}

and_true : (a : Bool) → (true && a) ≡ (a && true)
and_true true = refl
and_true false = refl

and_assoc : (a b c : Bool) → ((a && b) && c) ≡ (a && (b && c))
and_assoc true b c = refl
and_assoc false b c = refl

-- the first place apart from the others
all_first : (n : ℕ) (f : ℕ → Bool) → all_below (suc n) f ≡ (f 0 && all_below n (λ i. f (suc i)))
unfolding all_below
all_first zero f = and_true (f 0)
all_first (suc n) f = rw (all_first n f) (and_assoc (f 0) (all_below n (λ i. f (suc i))) (f (suc n)))

pub list_all_below : (p : ℕ → Bool) (s : List ℕ) → list_all p s ≡ all_below (length s) (λ i. p (get_or s i 0))
unfolding all_below
list_all_below p [] = refl
list_all_below p (x ∷ s) = rw (list_all_below p s) (sym (all_first (length s) (λ i. p (get_or (x ∷ s) i 0))))

pub range_all : (p : ℕ → Bool) (s : List ℕ) (from to count : ℕ) → from + count ≡ to → to ≤ length s
    → list_all p (slice_range s from to) ≡ all_below count (λ i. p (get_or s (from + i) 0))
range_all p s from to count e l =
    let d : to - from ≡ count = omega arith in
    let n : length (take count (drop from s)) ≡ count = length-take-le count (drop from s) (omega (arith, length-drop from s)) in
    rw d (list_all_below p (take count (drop from s)) ∙ rw n (all_cong count _ _ (λ i k. rw (get_or-take count (drop from s) i 0 k, get_or-drop from s i 0))))
