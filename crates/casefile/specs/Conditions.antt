-- Conditions on a case: what functions on an accepted case ask for, and what its parts have to be. Rests on Directory, Reading, and on what a
-- single part has to be: lattice's DeMorgan, theory's Part, formula's Bytes.
--   PartPlaced, HasDirectory, Placed: the parts stand where they may
--   PartsRead, FormulasRead: each part passes its own test
--   CaseOf: a string of bytes is a case of document 01 that holds a content
--   SameWhereRead: two strings of bytes agree wherever one is read
--   SameModel, SameCase: two models, and two contents, say the same
use Rattle.std.specs.Prelude.{ℕ, ◌≤◌, ◌<◌, ◌≡◌, true, List, [], length, get_or}
use Rattle.theory.specs.Formula.{Formula, bottom}
use Rattle.theory.specs.Model.{Model, Valued}
use Rattle.theory.specs.Part.{ops_of, model_of, ModelShape}
use Rattle.lattice.specs.Reading.{LatticeReading, lattice_reading, is_panel, lattice_of, lattice_form}
use Rattle.lattice.specs.DeMorgan.{DeMorganLattice}
use Rattle.model.specs.Reading.{model_test}
use Rattle.formula.specs.Bytes.{FormulaReading, formula_reading, bytes_of, allowed}
use Rattle.casefile.specs.Directory.{part_count, directory_end, part_start, part_size, part_end, end_before, parts_of}
use Rattle.casefile.specs.Reading.{Content, content_parts, formulas_reading, read}

-- part i stands where it may
pub record PartPlaced (b : List ℕ) (i : ℕ) : Type 0 where
  pub some : 0 < part_size b i
  pub after-directory : directory_end b ≤ part_start b i
  pub after_part : end_before b i ≤ part_start b i
  pub within : part_end b i ≤ length b

-- size and directory are right
pub record HasDirectory (b : List ℕ) : Type 0 where
  pub size_most : length b ≤ 32768
  pub count_least : 3 ≤ part_count b
  pub count_most : part_count b ≤ 11
  pub directory-within : directory_end b ≤ length b

-- and all parts stand where they may
pub record Placed (b : List ℕ) : Type 0 where
  pub directory : HasDirectory b
  pub each : (i : ℕ) → i < part_count b → PartPlaced b i

-- each part of an accepted content passed its own test
pub record PartsRead (c : Content) : Type 0 where
  pub lattice_read : lattice_reading c.lattice_bytes ≡ LatticeReading.accepted c.lattice
  pub model1_read : model_test c.lattice.size c.model1_bytes ≡ true
  pub model2_read : model_test c.lattice.size c.model2_bytes ≡ true
  pub same_propositions : get_or c.model1_bytes 1 0 ≡ get_or c.model2_bytes 1 0
  pub formulas_read : formulas_reading (get_or c.model1_bytes 1 0) 3 c.formula_bytes ≡ read c.formulas

-- as many formulas as parts, and each part is read as its formula
pub record FormulasRead (k : ℕ) (ps : List (List ℕ)) (φs : List Formula) : Type 0 where
  pub as_many : length φs ≡ length ps
  pub each : (f : ℕ) → f < length φs → formula_reading k (get_or ps f []) ≡ FormulaReading.read (get_or φs f bottom)

-- b is a case of document 01 that holds c
pub record CaseOf (b : List ℕ) (c : Content) : Type 0 where
  -- size and directory are right and each part stands where it may; these parts are those of c
  pub placed : Placed b
  pub parts : parts_of b ≡ content_parts c
  -- part 0 has its form, and gives the order and complement of a distributive De Morgan lattice
  pub lattice_form_lem : lattice_form c.lattice_bytes ≡ true
  pub lattice_is : c.lattice ≡ lattice_of c.lattice_bytes
  pub de_morgan : DeMorganLattice c.lattice
  -- parts 1 and 2 have their sizes and lengths, 'Every value is an element', and 'Both models have the same k'
  pub shape1 : ModelShape c.model1_bytes
  pub valued1 : Valued (ops_of c.lattice) (model_of c.model1_bytes)
  pub shape2 : ModelShape c.model2_bytes
  pub valued2 : Valued (ops_of c.lattice) (model_of c.model2_bytes)
  pub same_propositions : get_or c.model1_bytes 1 0 ≡ get_or c.model2_bytes 1 0
  -- every other part is the bytes of its formula, at most 255, and the formula is allowed
  pub as_many : length c.formulas ≡ length c.formula_bytes
  pub formula_bytes : (f : ℕ) → f < length c.formulas → get_or c.formula_bytes f [] ≡ bytes_of (get_or c.formulas f bottom)
  pub formula_most : (f : ℕ) → f < length c.formulas → length (get_or c.formula_bytes f []) ≤ 255
  pub formula_allowed : (f : ℕ) → f < length c.formulas → allowed (get_or c.model1_bytes 1 0) (get_or c.formulas f bottom) ≡ true

-- d has the length of b, and the same byte at every place of b's directory and at every place of one of b's parts
pub record SameWhereRead (b d : List ℕ) : Type 0 where
  pub same_length : length b ≡ length d
  pub same_directory : (at : ℕ) → at < directory_end b → get_or b at 0 ≡ get_or d at 0
  pub same_part : (i : ℕ) → i < part_count b → (at : ℕ) → part_start b i ≤ at → at < part_end b i → get_or b at 0 ≡ get_or d at 0

-- the same model: its sizes, and its values at the states
pub record SameModel (M N : Model ℕ) : Type 0 where
  pub states : M.states ≡ N.states
  pub propositions : M.propositions ≡ N.propositions
  pub initial : (q : ℕ) → q < M.states → M.initial q ≡ N.initial q
  pub label : (q : ℕ) → q < M.states → (p : ℕ) → p < M.propositions → M.label q p ≡ N.label q p
  pub transition : (q : ℕ) → q < M.states → (r : ℕ) → r < M.states → M.transition q r ≡ N.transition q r

-- 'the same reading, the form of the lattice included' (request 105): the lattice as the panel's one byte in both or in neither, with the same elements,
-- complement and order; the same models and formulas
pub record SameCase (c e : Content) : Type 0 where
  pub form : is_panel c.lattice_bytes ≡ is_panel e.lattice_bytes
  pub size : c.lattice.size ≡ e.lattice.size
  pub complement : (a : ℕ) → a < c.lattice.size → c.lattice.complement a ≡ e.lattice.complement a
  pub order : (a : ℕ) → a < c.lattice.size → (b : ℕ) → b < c.lattice.size → c.lattice.order a b ≡ e.lattice.order a b
  pub first : SameModel (model_of c.model1_bytes) (model_of e.model1_bytes)
  pub second : SameModel (model_of c.model2_bytes) (model_of e.model2_bytes)
  pub formulas : c.formulas ≡ e.formulas
