-- Tests over the numbers below a limit. Rests on nothing.
use Rattle.std.specs.Prelude.{ℕ, zero, suc, Bool, true, false, cond, ◌&&◌, ltb}

-- f passes at every number below n
unfoldable pub all_below : ℕ → (ℕ → Bool) → Bool
all_below zero f = true
all_below (suc n) f = all_below n f && f n

-- if a then b
abbrev pub ◌⇒◌ : Bool → Bool → Bool
true ⇒ b = b
false ⇒ b = true

infixr 20 ◌⇒◌
-- r where it is below n; else n where the test at n is passed, and n + 1 where it is not
abbrev pub or_next : ℕ → Bool → ℕ → ℕ
or_next n passed r = cond (ltb r n) r (cond passed n (suc n))

-- the least number below n at which f passes; n where there is none
unfoldable pub first_below : ℕ → (ℕ → Bool) → ℕ
first_below zero f = zero
first_below (suc n) f = or_next n (f n) (first_below n f)
