-- Which refusal a case is given, 1 to 10, and exactly when: a field for each row of document 01's table 'What a refused call gives'. 'The first that
-- applies is given, in this order, part by part from 3 on (all pairs first).' Rests on Directory, Conditions, lattice's Conditions, formula's RoundTrip.
--   HasSize, HasLattice, HasModel, HasSecondModel, HasFormula: what 1, 4 to 8, 9 and 10 ask of a case, beside HasDirectory and PartPlaced
--   FirstBroken: the first part that does not keep what is asked of each
--   RefusedAs: number and part are given exactly when what the number asks is broken there, and nothing that comes before it
use Rattle.std.specs.Prelude.{ℕ, ◌≤◌, ◌<◌, ◌≡◌, ◌↔◌, List, length, get_or}
use Rattle.theory.specs.Formula.{Formula}
use Rattle.theory.specs.Model.{Valued}
use Rattle.theory.specs.Part.{ops_of, model_of, ModelShape}
use Rattle.lattice.specs.Reading.{lattice_of}
use Rattle.lattice.specs.DeMorgan.{DeMorganLattice}
use Rattle.lattice.specs.Conditions.{HasForm, Breaks4, Breaks5, Breaks6, Breaks7, Breaks8}
use Rattle.formula.specs.RoundTrip.{FormulaPart}
use Rattle.casefile.specs.Directory.{part_count, part_at}
use Rattle.casefile.specs.Conditions.{PartPlaced, HasDirectory, Placed}

-- the case is neither 'empty' nor 'over 32,768 bytes'
pub record HasSize (b : List ℕ) : Type 0 where
  pub some : 0 < length b
  pub most : length b ≤ 32768

-- every part stands where it may, and part 0 has its form and is a distributive De Morgan lattice
pub record HasLattice (b : List ℕ) : Type 0 where
  pub placed : Placed b
  pub form : HasForm (part_at b 0)
  pub de_morgan : DeMorganLattice (lattice_of (part_at b 0))

-- part i has the sizes and the length of a model part, and 'Every value is an element'
pub record HasModel (b : List ℕ) (i : ℕ) : Type 0 where
  pub shape : ModelShape (part_at b i)
  pub valued : Valued (ops_of (lattice_of (part_at b 0))) (model_of (part_at b i))

-- part 2 has, and 'Both models have the same k'
pub record HasSecondModel (b : List ℕ) : Type 0 where
  pub model : HasModel b 2
  pub same_propositions : get_or (part_at b 1) 1 0 ≡ get_or (part_at b 2) 1 0

-- part i is the bytes of a formula, 1 to 255 of them, that keeps every rule on formulas over k propositions
abbrev pub HasFormula : List ℕ → ℕ → Type 0
HasFormula b i = (φ : Formula) × FormulaPart (get_or (part_at b 1) 1 0) (part_at b i) φ

-- part i breaks what is asked of each part, and of the parts from `from` on, up to `count`, no earlier one does
pub record FirstBroken (from count : ℕ) (Asked : ℕ → Type 0) (i : ℕ) : Type 0 where
  pub least : from ≤ i
  pub below : i < count
  pub earlier : (j : ℕ) → from ≤ j → j < i → Asked j
  pub broken : ¬ Asked i

-- `Given n p` says that number n with part p is given for the case b
pub record RefusedAs (Given : ℕ → ℕ → Type 0) (b : List ℕ) : Type 0 where
  -- 'the case is empty or over 32,768 bytes'
  pub at_1 : Given 1 255 ↔ (¬ HasSize b)
  -- 'the count is not 3 to 11, or the directory does not fit'
  pub at_2 : Given 2 255 ↔ (HasSize b × (¬ HasDirectory b))
  -- 'length 0, or a start or end breaks the rule above', the part
  pub at_3 : (i : ℕ) → Given 3 i ↔ (HasDirectory b × FirstBroken 0 (part_count b) (PartPlaced b) i)
  -- 'n over 64, a wrong length, a complement not below n, an order byte not 0 or 1'; 'no partial order'; 'a meet or join is missing';
  -- 'not distributive'; 'a complement rule broken'
  pub at_4 : Given 4 0 ↔ (Placed b × Breaks4 (part_at b 0))
  pub at_5 : Given 5 0 ↔ (Placed b × Breaks5 (part_at b 0))
  pub at_6 : Given 6 0 ↔ (Placed b × Breaks6 (part_at b 0))
  pub at_7 : Given 7 0 ↔ (Placed b × Breaks7 (part_at b 0))
  pub at_8 : Given 8 0 ↔ (Placed b × Breaks8 (part_at b 0))
  -- 'model length, sizes or a value wrong, or k differs (part 2)'
  pub at_9_1 : Given 9 1 ↔ (HasLattice b × (¬ HasModel b 1))
  pub at_9_2 : Given 9 2 ↔ (HasLattice b × (HasModel b 1 × (¬ HasSecondModel b)))
  -- 'a formula rule broken', the part
  pub at_10 : (i : ℕ) → Given 10 i ↔ (HasLattice b × (HasModel b 1 × (HasSecondModel b × FirstBroken 3 (part_count b) (HasFormula b) i)))
  -- and no other number is given
  pub only : (n p : ℕ) → Given n p → (1 ≤ n) × (n ≤ 10)
