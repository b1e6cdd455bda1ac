-- A test of each number of a range, and a search, as iterators make them. Rests on theory's Test and TestLaws, lattice_codes' Tests.
--   all_by_range: what `(0..n).all(test)` answers; found_by_position: where `position` finds a word
use Rattle.std.specs.Prelude.{ℕ, ◌<◌, ◌≡◌, Bool, true, false, List, length, Option, Some, None}
use Rattle.std.proofs.Common.{ap, ◌∙◌, zero-add, arith}
use Rattle.std.specs.Fn.{Called}
use Rattle.std.specs.Iterator.{YieldsThen}
use Rattle.std.specs.List.{list_all, range_with_len, FoldsTo, AllWithin, HoldsAt}
use Rattle.std.specs.Option.{MatchOption}
use Rattle.std.proofs.iter.Yields.{nat_range_steps}
use Rattle.std.proofs.lemmas.Iterator.{YieldsList-from_range}
use Rattle.std.proofs.lemmas.Iterator.Search.{all_from_yields_List}
use Rattle.std.proofs.lemmas.List.FromFn.{length-range_with_len, get_or-range_with_len}
use Rattle.std.specs.declared.ops.Range.{Range}
use denote.Param.Members.{Mut}
use borrow.Author.Tests.{ne_eqb}
use Rattle.theory.specs.Test.{all_below}
use Rattle.theory.specs.TestLaws.{all_cong}
use Rattle.theory.proofs.Parts.{list_all_below}
use Rattle.lattice_codes.specs.Tests.{FoundAt, found_here, found_none}

all_range : (n : ℕ) (f : ℕ → Bool) → list_all f (range_with_len 0 n) ≡ all_below n f
all_range n f = list_all_below f (range_with_len 0 n) ∙ rw length-range_with_len (all_cong n _ _ (λ i l. ap f (get_or-range_with_len 0 n i 0 l ∙ zero-add i)))

-- what `(0..n).all(test)` answers
pub all_by_range : {F : Type 0} {g : Mut F (ℕ × Unit {0}) Bool} {s u : Range ℕ} {f : F} {r : Bool} (n : ℕ) (test : ℕ → Bool)
    → (xs : List ℕ) × (o : Option ℕ) × (j : F) × YieldsThen nat_range_steps s xs o u × FoldsTo (λ p x q. Called g p (x, tt) true q) f xs j × MatchOption o (r ≡ true) (λ x. (r ≡ false) × ((h : F) × Called g j (x, tt) false h))
    → s ≡ record { start = 0; end = n } → ((x : ℕ) (b : Bool) (q : F) → Called g f (x, tt) b q → (q ≡ f) × (b ≡ test x)) → r ≡ all_below n test
all_by_range {u = u} {f = f} {r = r} n test d e h = all_from_yields_List test u f r d (YieldsList-from_range 0 n n e (omega arith)) h ∙ all_range n test

-- where `position` finds x
pub found_by_position : (w : List ℕ) (x : ℕ) (r : Option ℕ) → MatchOption r (AllWithin (λ y. y ≡ x → ⊥) w 0 (length w)) (λ i. (i < length w) × HoldsAt (λ y. y ≡ x) w i × AllWithin (λ y. y ≡ x → ⊥) w 0 i) → FoundAt w (length w) x r
found_by_position w x None h = found_none w (length w) x (λ i l. ne_eqb _ _ (h i 0 (omega arith) l))
found_by_position w x (Some i) h = found_here w (length w) x i h.0 (h.1 0)
