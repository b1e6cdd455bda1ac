-- The decimal digits of a number. Rests on Text.
--   read_after, decimal_read: the number that digits are read as; the digits of n are read as n
--   decimal-few, decimal_more: the digit of a number below 10; else the digits of its tenth, then the last
--   decimal_one, decimal_two, decimal_three, decimal_four: numbers below 10, 100, 1,000 and 10,000 have at most so many
use Rattle.std.specs.Prelude.{ℕ, zero, suc, ◌+◌, ◌*◌, ◌-◌, ◌/◌, ◌%◌, ◌≤◌, ◌<◌, ◌≡◌, refl, Bool, true, false, cond, List, [], ◌∷◌, ◌++◌, ltb, length}
use Rattle.std.proofs.Common.{ap, ◌∙◌, not-suc-le-zero, arith, ltb-true, ltb-false, lt-ltb, le-ltb, length-append}
use Rattle.listing.specs.Text.{decimal_within, decimal}

within-enough : (k j n : ℕ) → n < k → n < j → decimal_within k n ≡ decimal_within j n
unfolding decimal_within
within-enough zero j n a b = absurd (not-suc-le-zero a)
within-enough (suc k) zero n a b = absurd (not-suc-le-zero b)
within-enough (suc k) (suc j) n a b = go (λ p q. within-enough k j (n / 10) p q) (ltb n 10) refl
  where
    go : (n / 10 < k → n / 10 < j → decimal_within k (n / 10) ≡ decimal_within j (n / 10)) → (t : Bool) → ltb n 10 ≡ t → cond t ((48 + n) ∷ []) (decimal_within k (n / 10) ++ ((48 + n % 10) ∷ [])) ≡ cond t ((48 + n) ∷ []) (decimal_within j (n / 10) ++ ((48 + n % 10) ∷ []))
    go h true e = refl
    go h false e = ap (λ (s : List ℕ). s ++ ((48 + n % 10) ∷ [])) (h (omega (arith, ltb-false n 10 e)) (omega (arith, ltb-false n 10 e)))

pub decimal-few : (n : ℕ) → n < 10 → decimal n ≡ (48 + n) ∷ []
unfolding decimal decimal_within
decimal-few n l = rw (lt-ltb n 10 l)

pub decimal_more : (n : ℕ) → 10 ≤ n → decimal n ≡ decimal (n / 10) ++ ((48 + n % 10) ∷ [])
unfolding decimal decimal_within
decimal_more n l = rw (le-ltb n 10 l) (ap (λ (s : List ℕ). s ++ ((48 + n % 10) ∷ [])) (within-enough n (suc (n / 10)) (n / 10) (omega arith) (omega arith)))

-- how many there are
pub decimal_one : (n : ℕ) → n < 10 → length (decimal n) ≤ 1
decimal_one n l = omega (arith, ap length (decimal-few n l))

-- one digit more for ten times as many numbers
decimal_step : (b k : ℕ) → ((m : ℕ) → m < b → length (decimal m) ≤ k) → 1 ≤ k → (n : ℕ) → n < 10 * b → length (decimal n) ≤ k + 1
decimal_step b k h p n l = go (ltb n 10) refl
  where
    go : (t : Bool) → ltb n 10 ≡ t → length (decimal n) ≤ k + 1
    go true e = omega (arith, decimal_one n (ltb-true n 10 e))
    go false e = omega (arith, h (n / 10) (omega arith), ap length (decimal_more n (ltb-false n 10 e)), length-append (decimal (n / 10)) ((48 + n % 10) ∷ []))

pub decimal_two : (n : ℕ) → n < 100 → length (decimal n) ≤ 2
decimal_two n l = decimal_step 10 1 decimal_one (omega arith) n l

pub decimal_three : (n : ℕ) → n < 1000 → length (decimal n) ≤ 3
decimal_three n l = decimal_step 100 2 decimal_two (omega arith) n l

pub decimal_four : (n : ℕ) → n < 10000 → length (decimal n) ≤ 4
decimal_four n l = decimal_step 1000 3 decimal_three (omega arith) n l

-- ---- read back

-- the number that digits are read as, after a
unfoldable pub read_after : ℕ → List ℕ → ℕ
read_after a [] = a
read_after a (d ∷ s) = read_after (10 * a + (d - 48)) s

read_more : (s : List ℕ) (a d : ℕ) → read_after a (s ++ (d ∷ [])) ≡ 10 * read_after a s + (d - 48)
unfolding read_after
read_more [] a d = refl
read_more (x ∷ s) a d = read_more s (10 * a + (x - 48)) d

read_within : (k n : ℕ) → n < k → read_after 0 (decimal_within k n) ≡ n
unfolding decimal_within read_after
read_within zero n l = absurd (not-suc-le-zero l)
read_within (suc k) n l = go (λ p. read_within k (n / 10) p) (ltb n 10) refl
  where
    go : (n / 10 < k → read_after 0 (decimal_within k (n / 10)) ≡ n / 10) → (t : Bool) → ltb n 10 ≡ t → read_after 0 (cond t ((48 + n) ∷ []) (decimal_within k (n / 10) ++ ((48 + n % 10) ∷ []))) ≡ n
    go h true e = omega arith
    go h false e = read_more (decimal_within k (n / 10)) 0 (48 + n % 10) ∙ omega (arith, h (omega (arith, ltb-false n 10 e)))

-- the digits of n are read as n
pub decimal_read : (n : ℕ) → read_after 0 (decimal n) ≡ n
unfolding decimal
decimal_read n = read_within (suc n) n (omega arith)
