-- What the check of a case answers. Rests on Reading.
use Rattle.std.specs.Prelude.{ℕ, ◌≡◌, List, length, get_or, Result, Ok, Err}
use Rattle.refusal.specs.declared.Refusal.{Refusal}
use Rattle.casefile.specs.declared.Sizes.{Sizes}
use Rattle.lattice.specs.Answer.{top_and_bottom, CodesOf}
use Rattle.casefile.specs.Reading.{Content, CaseReading, case_reading, refused, content}

-- the lattice and the sizes of a content
abbrev pub sizes_of : Content → Sizes
sizes_of c =
    record {
      lattice = top_and_bottom c.lattice;
      states1 = get_or c.model1_bytes 0 0;
      states2 = get_or c.model2_bytes 0 0;
      propositions = get_or c.model1_bytes 1 0;
      formulas = length c.formulas;
    }

abbrev pub case_answer : CaseReading → Result Sizes Refusal
case_answer (refused r) = Err r
case_answer (content c) = Ok (sizes_of c)

-- The answer r is that of the case b, and where b is accepted, the words w are the codes of its lattice. After a refusal they are free.
pub record CaseAnswered (b : List ℕ) (r : Result Sizes Refusal) (w : List ℕ) : Type 0 where
  pub answer : r ≡ case_answer (case_reading b)
  pub codes : (c : Content) → case_reading b ≡ content c → CodesOf c.lattice w
