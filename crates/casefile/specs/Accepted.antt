-- What holds of an accepted case, and its gapless form: the same content, and its greatest length.
-- Rests on Reading, Placed, Laid and FormulaParts.
-- Here stand the definitions; the theorems are in proofs/Accepted.
--   Accepted, accepted_case: what holds of a case that is accepted with a content
--   ContentOf, content_of: the content of parts that are read
use Rattle.std.specs.Prelude.{ℕ, ◌≤◌, ◌<◌, ◌≡◌, List, ◌∷◌, length}
use Rattle.theory.specs.Lattice.{All}
use Rattle.casefile.specs.Directory.{parts_of}
use Rattle.casefile.specs.Reading.{Content, content_parts, parts_reading, content}
use Rattle.casefile.specs.Conditions.{Placed, PartsRead}

-- the content is that of the parts l, m1, m2 and fs
pub record ContentOf (l m1 m2 : List ℕ) (fs : List (List ℕ)) (c : Content) : Type 0 where
  pub is : content_parts c ≡ l ∷ m1 ∷ m2 ∷ fs
  pub reads : PartsRead c

pub record Accepted (b : List ℕ) (c : Content) : Type 0 where
  pub placed : Placed b
  pub parts : parts_of b ≡ content_parts c
  pub reads : PartsRead c
  pub some : All (λ p. 0 < length p) (content_parts c)
  pub few : length c.formula_bytes ≤ 8
  pub again : parts_reading c.lattice_bytes c.model1_bytes c.model2_bytes c.formula_bytes ≡ content c
