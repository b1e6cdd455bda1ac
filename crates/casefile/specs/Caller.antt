-- What a caller of the check learns of a case or a store from the answer. Rests on Answer, Accepted and Content.
-- Here stand the definitions; the theorems are in proofs/Caller.
--   AcceptedCase: what is known of an accepted case: its content, sizes, operations and their laws, its places and parts, its gapless length
use Rattle.std.specs.Prelude.{ℕ, ◌≤◌, ◌≡◌, List, length}
use Rattle.theory.specs.Lattice.{Laws}
use Rattle.theory.specs.Part.{ops_of}
use Rattle.elements.specs.Words.{ops_in, Coded}
use Rattle.lattice.specs.Answer.{CodesOf}
use Rattle.casefile.specs.declared.Sizes.{Sizes}
use Rattle.casefile.specs.Directory.{parts_of}
use Rattle.casefile.specs.Reading.{Content, content, case_reading}
use Rattle.casefile.specs.Gapless.{gapless}
use Rattle.casefile.specs.Answer.{sizes_of}
use Rattle.casefile.specs.Conditions.{Placed}
use Rattle.casefile.specs.Content.{ContentSound, PartsAre}

-- after the answer that the case b is accepted with the sizes s, and the codes w
pub record AcceptedCase (b : List ℕ) (s : Sizes) (w : List ℕ) : Type 0 where
  pub holds : Content
  pub reads : case_reading b ≡ content holds
  pub sizes : s ≡ sizes_of holds
  pub codes : CodesOf holds.lattice w
  pub ops : ops_in w s.lattice ≡ ops_of holds.lattice
  pub coded : Coded w s.lattice
  pub laws : Laws (ops_in w s.lattice)
  pub sound : ContentSound holds
  pub placed : Placed b
  pub parts : PartsAre b holds
  pub short : length (gapless (parts_of b)) ≤ 16618
