-- Birkhoff's theorem for a distributive lattice, in the terms of its codes. Rests on theory's Irreducible, Tests, Birkhoff, Irreducible and Accepting.
-- The definitions are in specs/Representation.
--     every set of join-irreducible elements that has those below its own is one element's code
--   birkhoff: every distributive lattice is so; code_unique: no two elements have one code
use Rattle.std.specs.Prelude.{ℕ, ◌<◌, ◌≡◌, Bool, true, ◌&&◌}
use Rattle.std.proofs.Common.{sym, ap, ◌∙◌}
use Rattle.theory.specs.Part.{LatticePart, meet_of}
use Rattle.theory.specs.TestLaws.{and_l, and_r, and_in}
use Rattle.lattice_order.specs.Ordered.{Formed, meet_at}
use Rattle.elements.specs.Bits.{bits_at}
use Rattle.lattice_codes.specs.Tests.{ordered, closed, down_of, irreducibles, code_of}
use Rattle.lattice_codes.specs.MeetsJoinsFound.{meets_and_joins-meets}
use Rattle.lattice_codes.specs.Birkhoff.{below}
use Rattle.lattice_codes.proofs.Birkhoff.{code_bits, code-order, code-distinct, code_meet, code-join}
use Rattle.lattice_codes.proofs.Irreducible.{irreducible-exactly}
use Rattle.lattice_codes.specs.Accepting.{DistributiveLattice}
use Rattle.lattice_codes.proofs.Accepting.{set_code, test_complete}
use Rattle.lattice_codes.specs.Representation.{has_bit, Represented}

module _ (P : LatticePart) (f : Formed P) (D : DistributiveLattice P) where
  bit_is : (a e : ℕ) → e < P.size → has_bit (code_of P a) e ≡ below P a e
  bit_is a e l = ap (λ (x : ℕ). has_bit x e) (code_bits P a) ∙ bits_at P.size (below P a) e l

  abbrev tested : Bool
  tested = ordered P.size (down_of P) (code_of P) && closed P.size (code_of P) (irreducibles P.size (down_of P)) true

  pub code_unique : (a b : ℕ) → a < P.size → b < P.size → code_of P a ≡ code_of P b → a ≡ b
  code_unique = code-distinct P D.order (meets_and_joins-meets P D.meets_and_joins_lem)

  pub birkhoff : Represented P
  birkhoff =
      let t = test_complete P f.some D in
      let u = and_l tested _ t in
      record {
        bit = λ a e l. (
          λ t. let s = sym (bit_is a e l) ∙ t in ((irreducible-exactly P f D.order D.meets_and_joins_lem e l).0 (and_r (P.order e a) _ s), and_l (P.order e a) _ s),
          λ j. bit_is a e l ∙ and_in _ _ j.1 ((irreducible-exactly P f D.order D.meets_and_joins_lem e l).1 j.0),
        );
        order = code-order P D.order (meets_and_joins-meets P D.meets_and_joins_lem);
        meet = λ a b l m. code_meet P D.order a b (meet_of P a b) l m (D.meets_and_joins_lem.meet_lt a b l m) (meet_at P D.meets_and_joins_lem a b l m);
        join = code-join P D.order D.meets_and_joins_lem D.distributes;
        every = set_code P (and_l (ordered P.size (down_of P) (code_of P)) _ u) (and_r (ordered P.size (down_of P) (code_of P)) _ u) (and_r tested _ t);
      }
