-- What a distributive De Morgan lattice on the numbers below n is, by its order and complement. Rests on theory's Part.
--   DeMorganLattice: order, complement, and some meet and join, are those of such a lattice
--   MeetAt: a number is the meet of two; reversed: the order the other way round, in which a join is a meet
use Rattle.std.specs.Prelude.{ℕ, ◌<◌, ◌≡◌, true}
use Rattle.theory.specs.Part.{LatticePart}

-- the part with its order the other way round: its meets are the joins, and its top is the bottom
abbrev pub reversed : LatticePart → LatticePart
reversed P = record { size = P.size; complement = P.complement; order = λ a b. P.order b a }

-- m is the meet of a and b
pub record MeetAt (P : LatticePart) (a b m : ℕ) : Type 0 where
  pub left : P.order m a ≡ true
  pub right : P.order m b ≡ true
  pub greatest : (c : ℕ) → c < P.size → P.order c a ≡ true → P.order c b ≡ true → P.order c m ≡ true

-- The order and the complement of P are those of a distributive De Morgan lattice on the numbers below n, with some meet and join.
pub record DeMorganLattice (P : LatticePart) : Type 0 where
  pub rfl : (a : ℕ) → a < P.size → P.order a a ≡ true
  pub antisym : (a b : ℕ) → a < P.size → b < P.size → P.order a b ≡ true → P.order b a ≡ true → a ≡ b
  pub trans : (a b c : ℕ) → a < P.size → b < P.size → c < P.size → P.order a b ≡ true → P.order b c ≡ true → P.order a c ≡ true
  pub meet : ℕ → ℕ → ℕ
  pub meet_lt : (a b : ℕ) → a < P.size → b < P.size → meet a b < P.size
  pub meet_is : (a b : ℕ) → a < P.size → b < P.size → MeetAt P a b (meet a b)
  pub join : ℕ → ℕ → ℕ
  pub join_lt : (a b : ℕ) → a < P.size → b < P.size → join a b < P.size
  pub join_is : (a b : ℕ) → a < P.size → b < P.size → MeetAt (reversed P) a b (join a b)
  pub dist : (a b c : ℕ) → a < P.size → b < P.size → c < P.size → meet a (join b c) ≡ join (meet a b) (meet a c)
  pub complement_lt : (a : ℕ) → a < P.size → P.complement a < P.size
  pub involution : (a : ℕ) → a < P.size → P.complement (P.complement a) ≡ a
  pub antitone : (a b : ℕ) → a < P.size → b < P.size → P.order a b ≡ true → P.order (P.complement b) (P.complement a) ≡ true
