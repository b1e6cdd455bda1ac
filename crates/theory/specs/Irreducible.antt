-- Join-irreducible elements. Rests on Lattice, TestLaws, Finite.
-- Here stand the definitions; the theorems are in proofs/Irreducible.
--   JoinIrreducible: the definition, which a reader of Sharp's theorem on any operator must believe (T_sharp itself does not speak of them)
use Rattle.std.specs.Prelude.{◌≢◌}
use Rattle.theory.specs.Lattice.{Ops, Element}

-- request 108: 'a join-irreducible element l, that is, one that isn't bottom and is no join of two elements both unlike it'
pub record JoinIrreducible {A : Type 0} (O : Ops A) (l : A) : Type 0 where
  pub is_element : Element O l
  pub not_bottom : l ≢ O.bot
  pub no_join : (a b : A) → Element O a → Element O b → a ≢ l → b ≢ l → l ≢ O.join a b
