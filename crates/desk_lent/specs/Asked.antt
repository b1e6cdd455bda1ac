-- What a call that reads says, where the standing is lent. Rests on desk_check's Read and Answer.
use Rattle.std.specs.Prelude.{ℕ, ◌≡◌, List, []}
use Rattle.desk_check.specs.declared.Standing.{Standing}
use Rattle.desk_check.specs.Read.{desk_of}
use Rattle.desk_check.specs.Answer.{DoesWith}
use Rattle.desk.specs.Desk.{Call, Question, Reply}

-- the call k on the desk of these four answers x and leaves that desk, and `lent` in the buffers that it is lent to write into; the standing is unchanged by it
abbrev pub ReadsOnlyWith : List (List ℕ) → Call → Standing → List ℕ → List ℕ → List ℕ → Reply → Standing → Type 0
ReadsOnlyWith lent k s store first second x after = DoesWith lent k (desk_of s store first second) x (desk_of after store first second) × (after ≡ s)

-- one that is lent none; a question
abbrev pub ReadsOnly : Call → Standing → List ℕ → List ℕ → List ℕ → Reply → Standing → Type 0
ReadsOnly = ReadsOnlyWith []

abbrev pub AsksOnly : Question → Standing → List ℕ → List ℕ → List ℕ → Reply → Standing → Type 0
AsksOnly q = ReadsOnly (Call.Ask q)

abbrev pub AsksOnlyWith : List (List ℕ) → Question → Standing → List ℕ → List ℕ → List ℕ → Reply → Standing → Type 0
AsksOnlyWith lent q = ReadsOnlyWith lent (Call.Ask q)
