-- What an accepted case gives to whoever works with its lattice, its models and its formulas. Rests on Accepted.
-- Here stand the definitions; the theorems are in proofs/Content.
--   ContentSound: the lattice has its laws, the models have their shape and their values in it, the formulas are read; sizes are bounded
--   PartsAre, parts_are: the parts of an accepted case are those of its content; part_is, count_is: one part by its number, and their count
use Rattle.std.specs.Prelude.{ℕ, ◌+◌, ◌*◌, ◌≤◌, ◌<◌, ◌≡◌, List, [], length, get_or}
use Rattle.theory.specs.Lattice.{Laws}
use Rattle.theory.specs.Model.{Valued}
use Rattle.theory.specs.Part.{ops_of, model_of, ModelShape}
use Rattle.lattice_order.specs.Sound.{LatticeSound}
use Rattle.casefile.specs.Directory.{part_count, part_at}
use Rattle.casefile.specs.Reading.{Content}
use Rattle.casefile.specs.Conditions.{FormulasRead}

pub record ContentSound (c : Content) : Type 0 where
  pub lattice_sound : LatticeSound c.lattice
  pub laws : Laws (ops_of c.lattice)
  -- n is at most 64; a table has 1 to 4,096 entries
  pub elements_most : c.lattice.size ≤ 64
  pub entries_some : 0 < get_or c.model1_bytes 0 0 * get_or c.model2_bytes 0 0
  pub entries_most : get_or c.model1_bytes 0 0 * get_or c.model2_bytes 0 0 ≤ 4096
  pub shape1 : ModelShape c.model1_bytes
  pub shape2 : ModelShape c.model2_bytes
  pub valued1 : Valued (ops_of c.lattice) (model_of c.model1_bytes)
  pub valued2 : Valued (ops_of c.lattice) (model_of c.model2_bytes)
  pub same_propositions : get_or c.model1_bytes 1 0 ≡ get_or c.model2_bytes 1 0
  pub formulas : FormulasRead (get_or c.model1_bytes 1 0) c.formula_bytes c.formulas

-- the bytes of the parts, beside the content: the two models, and each formula
pub record PartsAre (b : List ℕ) (c : Content) : Type 0 where
  pub least : 3 ≤ part_count b
  pub count : part_count b ≡ 3 + length c.formulas
  pub model1 : part_at b 1 ≡ c.model1_bytes
  pub model2 : part_at b 2 ≡ c.model2_bytes
  pub formula : (f : ℕ) → f < length c.formulas → part_at b (3 + f) ≡ get_or c.formula_bytes f []
