-- The tests of refusals 5 to 8, of an order and a complement on the numbers below n. Rests on theory's Part and Test.
--   all2, all3: a test at every two, at every three numbers
--   partial_order: refusal 5 does not apply; reflexive, antisymmetric, transitive
--   meets_and_joins: refusal 6 does not apply; distributive: refusal 7; complement_rules: refusal 8
use Rattle.std.specs.Prelude.{ℕ, Bool, ◌&&◌, ltb, eqb}
use Rattle.theory.specs.Part.{LatticePart, meet_of, join_of}
use Rattle.theory.specs.Test.{all_below, ◌⇒◌}

-- ---- refusal 5: 'no partial order'. `le a b` says that a is at or below b, for a and b below n

-- f passes at all a and b below n; at all a, b and c
abbrev pub all2 : ℕ → (ℕ → ℕ → Bool) → Bool
all2 n f = all_below n (λ a. all_below n (λ b. f a b))

abbrev pub all3 : ℕ → (ℕ → ℕ → ℕ → Bool) → Bool
all3 n f = all_below n (λ a. all_below n (λ b. all_below n (λ c. f a b c)))

unfoldable pub reflexive : ℕ → (ℕ → ℕ → Bool) → Bool
reflexive n le = all_below n (λ a. le a a)

unfoldable pub antisymmetric : ℕ → (ℕ → ℕ → Bool) → Bool
antisymmetric n le = all2 n (λ a b. le a b ⇒ le b a ⇒ eqb a b)

unfoldable pub transitive : ℕ → (ℕ → ℕ → Bool) → Bool
transitive n le = all3 n (λ a b c. le a b ⇒ le b c ⇒ le a c)

-- 'The order is reflexive, antisymmetric and transitive.'
unfoldable pub partial_order : ℕ → (ℕ → ℕ → Bool) → Bool
partial_order n le = reflexive n le && antisymmetric n le && transitive n le

-- ---- refusal 6: 'a meet or join is missing'. 'Every two elements have a meet and a join.' n stands for none

unfoldable pub meets_and_joins : LatticePart → Bool
meets_and_joins P = all2 P.size (λ a b. ltb (meet_of P a b) P.size && ltb (join_of P a b) P.size)

-- ---- refusal 7: 'not distributive'. 'Meet distributes over join.'

unfoldable pub distributive : ℕ → (ℕ → ℕ → ℕ) → (ℕ → ℕ → ℕ) → Bool
distributive n meet join = all3 n (λ a b c. eqb (meet a (join b c)) (join (meet a b) (meet a c)))

-- ---- refusal 8: 'a complement rule broken'. 'The complement of the complement is the element, and a ≤ b gives not-b ≤ not-a.'

unfoldable pub complement_rules : ℕ → (ℕ → ℕ → Bool) → (ℕ → ℕ) → Bool
complement_rules n le neg = all_below n (λ a. eqb (neg (neg a)) a) && all2 n (λ a b. le a b ⇒ le (neg b) (neg a))
