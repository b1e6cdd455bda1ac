-- The words of a distributive lattice hold its operations. Rests on theory's Part, lattice_order's Ordered and Searched, elements' Words, Tests, Birkhoff,
-- Accepting.
-- Here stand the definitions; the theorems are in proofs/Held.
--   CodesOf: 128 words hold the codes of the elements and of their complements
use Rattle.std.specs.Prelude.{ℕ, ◌+◌, ◌<◌, ◌≡◌, List}
use Rattle.std.proofs.Math.ListN.{get_or}
use Rattle.theory.specs.Part.{LatticePart, top_of, bot_of, element}
use Rattle.elements.specs.declared.Lattice.{Lattice}
use Rattle.lattice_codes.specs.Tests.{code_of}

-- n, top and bottom of a part
abbrev pub top_and_bottom : LatticePart → Lattice
top_and_bottom P = record { size = P.size; top = record { 0 = top_of P }; bottom = record { 0 = bot_of P } }

-- the words w hold the code of each element, and that of its complement; a number that is no element has those of element 0
pub record CodesOf (P : LatticePart) (w : List ℕ) : Type 0 where
  pub codes : (a : ℕ) → a < 64 → get_or w a 0 ≡ code_of P (element P.size a)
  pub negated : (a : ℕ) → a < 64 → get_or w (64 + a) 0 ≡ code_of P (P.complement (element P.size a))
