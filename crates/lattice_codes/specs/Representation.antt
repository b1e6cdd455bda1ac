-- Birkhoff's theorem for a distributive lattice, in the terms of its codes. Rests on theory's Irreducible, Tests, Birkhoff, Irreducible and Accepting.
-- Here stand the definitions; the theorems are in proofs/Representation.
--   has_bit: bit e of a word
--   Represented: bit e of a's code is set exactly when e is join-irreducible and at or below a; codes say the order, meet is &, join is |, and
--     every set of join-irreducible elements that has those below its own is one element's code
use Rattle.std.specs.Prelude.{ℕ, ◌^◌, ◌<◌, ◌≡◌, Bool, true, ◌↔◌, eqb}
use Rattle.std.specs.Int.Bits.{bit_and, bit_or}
use Rattle.theory.specs.Irreducible.{JoinIrreducible}
use Rattle.theory.specs.Part.{LatticePart, meet_of, join_of, ops_of}
use Rattle.elements.specs.Bits.{bits}
use Rattle.elements.specs.Words.{within}
use Rattle.lattice_codes.specs.Tests.{code_of}
use Rattle.lattice_codes.specs.Accepting.{CodeAt, DownSet}

-- bit e of the word x
abbrev pub has_bit : ℕ → ℕ → Bool
has_bit x e = eqb (bit_and (2 ^ e) x) (2 ^ e)

pub record Represented (P : LatticePart) : Type 0 where
  pub bit : (a e : ℕ) → e < P.size → (has_bit (code_of P a) e ≡ true) ↔ (JoinIrreducible (ops_of P) e × (P.order e a ≡ true))
  pub order : (a b : ℕ) → a < P.size → b < P.size → P.order a b ≡ within (code_of P a) (code_of P b)
  pub meet : (a b : ℕ) → a < P.size → b < P.size → code_of P (meet_of P a b) ≡ bit_and (code_of P a) (code_of P b)
  pub join : (a b : ℕ) → a < P.size → b < P.size → code_of P (join_of P a b) ≡ bit_or (code_of P a) (code_of P b)
  pub every : (p : ℕ → Bool) → DownSet P p → CodeAt P (bits P.size p)
