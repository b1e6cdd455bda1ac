-- Model parts of 64 states and 16 propositions. Rests on theory's Part, formula's Check, entries' Table and valuer's Values.
--   Full: the part has these sizes; full_set: a part in which they are set is full
--   full_shape, full_held, full_shaped: what rows ask of it; full_reads: a part that the check accepts is read as a formula
use Rattle.std.specs.Prelude.{ℕ, ◌*◌, ◌≤◌, ◌<◌, ◌≡◌, List, length, get_or, set, Option, Some}
use Rattle.std.proofs.Common.{sym, ◌∙◌, arith, length-set, get_or-set_same, get_or-set_other}
use Rattle.theory.specs.Part.{ModelShape}
use Rattle.formula.specs.Bytes.{formula_reading}
use Rattle.formula.specs.Check.{accepted_read}
use Rattle.formula.specs.Answer.{checked}
use Rattle.formula.specs.declared.FormulaFacts.{FormulaFacts}
use Rattle.entries.specs.Table.{Shaped}
use Rattle.valuer.specs.Values.{Reads}

pub record Full (m : List ℕ) : Type 0 where
  pub size : length m ≡ 5186
  pub states : get_or m 0 0 ≡ 64
  pub propositions : get_or m 1 0 ≡ 16

-- a part in which the two sizes are set
pub full_set : (m : List ℕ) → length m ≡ 5186 → Full (set (set m 0 64) 1 16)
full_set m e =
    let one : 1 < length (set m 0 64) = simp length-set (omega arith) in
    record {
      size = simp length-set e;
      states = get_or-set_other (set m 0 64) 1 0 16 0 (λ (z : 0 ≡ 1). omega arith) ∙ get_or-set_same m 0 64 0 (omega arith);
      propositions = get_or-set_same (set m 0 64) 1 16 0 one;
    }

pub full_shape : (m : List ℕ) → Full m → ModelShape m
full_shape m f = record { some = omega arith; states_most = omega arith; propositions_most = omega arith; exact = rw (f.states, f.propositions) f.size }

-- a table of 4,096 bytes holds the entries
pub full_held : (m₁ m₂ s : List ℕ) → Full m₁ → Full m₂ → length s ≡ 4096 → get_or m₁ 0 0 * get_or m₂ 0 0 ≤ length s
full_held m₁ m₂ s f g e = rw (f.states, g.states, e) (omega arith)

pub full_shaped : (m₁ m₂ s : List ℕ) → Full m₁ → Full m₂ → length s ≡ 4096 → Shaped m₁ m₂ s
full_shaped m₁ m₂ s f g e =
    record {
      first = full_shape m₁ f;
      second = full_shape m₂ g;
      same_propositions = f.propositions ∙ sym g.propositions;
      held = full_held m₁ m₂ s f g e;
    }

-- a part that the check accepts is read as a formula
pub full_reads : (m f : List ℕ) (a : Option FormulaFacts) (x : FormulaFacts) → Full m → a ≡ Some x → a ≡ checked (formula_reading 16 f) → Reads m f
full_reads m f a x k e w = let r = accepted_read (formula_reading 16 f) x (sym e ∙ w) in (r.0, rw k.propositions r.1)
