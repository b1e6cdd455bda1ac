-- What an accepted case gives to whoever works with its lattice, its models and its formulas. Rests on Accepted.
-- The definitions are in specs/Content.
--   content_sound: the content of every accepted case is so
use Rattle.std.specs.Prelude.{ℕ, suc, ◌+◌, ◌<◌, ◌≡◌, List, [], length, get_or}
use Rattle.std.proofs.Common.{sym, ap, ◌∙◌, mul-pos, arith}
use Rattle.lattice.specs.Accepted.{accepted_is_lattice, accepted_sound}
use Rattle.model.specs.Places.{prod_le}
use Rattle.model.proofs.Accepted.{accepted_shape, accepted_valued}
use Rattle.casefile.specs.Directory.{part_count, part_at}
use Rattle.casefile.specs.Reading.{Content, content_parts, case_reading, content}
use Rattle.casefile.specs.Placed.{part_of}
use Rattle.casefile.proofs.FormulaParts.{formulas_read}
use Rattle.casefile.proofs.Accepted.{parts_length, accepted_case}
use Rattle.casefile.specs.Conditions.{PartsRead}
use Rattle.casefile.specs.Content.{ContentSound, PartsAre}

pub content_sound : (b : List ℕ) (c : Content) → case_reading b ≡ content c → ContentSound c
content_sound b c e = go (accepted_case b c e).reads
  where
    go : PartsRead c → ContentSound c
    go r =
        let s = accepted_sound c.lattice_bytes c.lattice r.lattice_read in
        let m1 = accepted_shape c.lattice.size c.model1_bytes r.model1_read in
        let m2 = accepted_shape c.lattice.size c.model2_bytes r.model2_read in
        record {
          lattice_sound = rw s.0 s.1;
          laws = accepted_is_lattice c.lattice_bytes c.lattice r.lattice_read;
          elements_most = rw s.0 s.1.formed.most;
          entries_some = mul-pos m1.some m2.some;
          entries_most = prod_le (get_or c.model1_bytes 0 0) (get_or c.model2_bytes 0 0) 64 64 m1.states_most m2.states_most;
          shape1 = m1;
          shape2 = m2;
          valued1 = accepted_valued c.lattice c.model1_bytes r.model1_read;
          valued2 = accepted_valued c.lattice c.model2_bytes r.model2_read;
          same_propositions = r.same_propositions;
          formulas = formulas_read (get_or c.model1_bytes 1 0) 3 c.formula_bytes c.formulas r.formulas_read;
        }

-- a part of the case, by its number
pub part_is : (b : List ℕ) (c : Content) → case_reading b ≡ content c → (i : ℕ) → i < part_count b → part_at b i ≡ get_or (content_parts c) i []
part_is b c e i l = sym (part_of b i l) ∙ ap (λ (ps : List (List ℕ)). get_or ps i []) (accepted_case b c e).parts

-- the count of parts
pub count_is : (b : List ℕ) (c : Content) → case_reading b ≡ content c → part_count b ≡ 3 + length c.formulas
count_is b c e =
    omega (
      arith,
      ap length (accepted_case b c e).parts,
      parts_length b 0 (part_count b),
      (formulas_read (get_or c.model1_bytes 1 0) 3 c.formula_bytes c.formulas (accepted_case b c e).reads.formulas_read).as_many,
    )

pub parts_are : (b : List ℕ) (c : Content) → case_reading b ≡ content c → PartsAre b c
parts_are b c e =
    let n = count_is b c e in
    record {
      least = omega arith;
      count = n;
      model1 = part_is b c e 1 (omega arith);
      model2 = part_is b c e 2 (omega arith);
      formula = λ f l. let z : 3 + f ≡ suc (suc (suc f)) = omega arith in part_is b c e (3 + f) (omega arith) ∙ rw z;
    }
