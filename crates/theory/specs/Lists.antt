-- Lists by their rule, and bytes written at a place of a list. Rests on nothing.
use Rattle.std.specs.Prelude.{ℕ, zero, suc, ◌+◌, ◌<◌, ◌≡◌, List, [], ◌∷◌, ◌++◌, length, get_or, take, drop}

unfoldable pub tab : (ℕ → ℕ) → ℕ → ℕ → List ℕ
tab f zero i = []
tab f (suc n) i = f i ∷ tab f n (suc i)

-- the first q entries are as the rule says. A record, so that a goal shows f, q and the list
pub record Filled (f : ℕ → ℕ) (q : ℕ) (xs : List ℕ) : Type 0 where
  pub at : (k : ℕ) → k < q → get_or xs k 0 ≡ f k

-- out with the bytes s at the place `at`, and every other byte as it was
abbrev pub written : ℕ → List ℕ → List ℕ → List ℕ
written at s out = take at out ++ s ++ drop (at + length s) out
