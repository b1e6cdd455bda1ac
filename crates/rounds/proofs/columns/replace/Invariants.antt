use Rattle.std.proofs.Common.{◌≡◌, ℕ, get_or}
use Rattle.theory.specs.Loop.{fold}
use Rattle.entries.specs.Words.{Replaced}
use Rattle.rounds.proofs.columns.replace.Given as goal

-- the words below i are replaced, and folded
abbrev pub invariant-loop-i : goal.invariant-loop-i
invariant-loop-i g l =
    ((h : ℕ → ℕ → ℕ) → ((x y r : ℕ) → goal.F-post g l.f x y r → r ≡ h x y) → Replaced (λ i x. h x (get_or l.others i 0)) l.i l.initial.row l.row)
    × ((h : ℕ → ℕ → ℕ) → ((x y r : ℕ) → goal.G-post g l.g x y r → r ≡ h x y) → l.all ≡ fold h l.start (λ i. get_or l.row i 0) l.i)
