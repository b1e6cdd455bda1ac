-- The numbers that the exports answer, for each of the desk's replies and for what a desk holds. Rests on desk's Desk, Case, Refused and Perform,
-- refusal's Number, and desk_check's Read.
--   numbers, by answered, given, carrying and yes_no: the numbers of a reply
--   DoneInNumbers, AskedInNumbers: what an export of a call says, and one of a call that only reads
--   DoneInNumbersWith, AskedInNumbersWith: the same of a call that is lent buffers to write into
--   named, named_bytes, ShownInNumbers: what show's export says
--   sized: what the export of a desk's sizes says
use Rattle.std.specs.Prelude.{ℕ, ◌≡◌, Bool, false, cond, List, [], eqb, length, take}
use Rattle.refusal.specs.Number.{number_of, part_of}
use Rattle.casefile.specs.Reading.{CaseReading, refused, content}
use Rattle.desk.specs.Desk.{Desk, Call, Question, Reply}
use Rattle.desk.specs.Case.{lattice_size, model1, N1, N2, table_size}
use Rattle.desk.specs.Refused.{examined}
use Rattle.desk.specs.Perform.{perform}
use Rattle.desk_check.specs.declared.Standing.{Standing}
use Rattle.desk_check.specs.Read.{desk_of}
use Rattle.exports.specs.declared.Answer.{Answer}
use Rattle.exports.specs.declared.Shown.{Shown}
use Rattle.exports.specs.declared.DeskSizes.{DeskSizes}

-- yes is 1, no is 0
abbrev pub yes_no : Bool → ℕ
yes_no b = cond b 1 0

-- an answer of this kind, refusal and value; byte, second and the flags are 0 and false
abbrev pub answered : ℕ → ℕ → ℕ → ℕ → Answer
answered kind number part value =
    record { kind = kind; number = number; part = part; byte = 0; value = value; second = 0; flag1 = false; flag2 = false }

-- one that names no refusal
abbrev pub given : ℕ → ℕ → Answer
given kind value = answered kind 0 0 value

-- one that carries the count of lowerings (request 107)
abbrev pub carrying : ℕ → ℕ → ℕ → Answer
carrying kind value lowerings =
    record { kind = kind; number = 0; part = 0; byte = 0; value = value; second = lowerings; flag1 = false; flag2 = false }

-- | reply            | kind | number | part | byte       | value        | second | flag1       | flag2 |
-- |------------------|------|--------|------|------------|--------------|--------|-------------|-------|
-- | Refused n p      | 0    | n      | p    | 0          | 0            | 0      | false       | false |
-- | Opened           | 1    | 0      | 0    | 0          | 0            | 0      | false       | false |
-- | Row n            | 2    | 0      | 0    | 0          | 0            | n      | false       | false |
-- | Round r n        | 3    | 0      | 0    | 0          | r            | n      | false       | false |
-- | Settled T n      | 4    | 0      | 0    | 0          | T            | n      | false       | false |
-- | Element e        | 5    | 0      | 0    | 0          | e            | 0      | false       | false |
-- | PerCent p        | 6    | 0      | 0    | 0          | p            | 0      | false       | false |
-- | Says b           | 7    | 0      | 0    | 0          | 1 yes, 0 no  | 0      | false       | false |
-- | FormulaValue e x | 9    | 0      | 0    | x.nesting  | e            | 0      | x.fixpoint  | x.ex  |
-- | Length n         | 10   | 0      | 0    | 0          | n            | 0      | false       | false |
-- Shown has kind 8, which no export answers: what show gives is told by `named`.
abbrev pub numbers : Reply → Answer
numbers (Reply.Refused n p) = answered 0 n p 0
numbers Reply.Opened = given 1 0
numbers (Reply.Row n) = carrying 2 0 n
numbers (Reply.Round r n) = carrying 3 r n
numbers (Reply.Settled t n) = carrying 4 t n
numbers (Reply.Element e) = given 5 e
numbers (Reply.FormulaValue e x) =
    record { kind = 9; number = 0; part = 0; byte = x.nesting; value = e; second = 0; flag1 = x.fixpoint; flag2 = x.ex }
numbers (Reply.PerCent p) = given 6 p
numbers (Reply.Says b) = given 7 (yes_no b)
numbers (Reply.Shown b) = given 8 0
numbers (Reply.Length n) = given 10 n

-- the call k on the desk d is answered with these numbers, and leaves the desk e, standing, store and both tables, and `lent` in the buffers that it is
-- lent to write into
pub record DoneInNumbersWith (lent : List (List ℕ)) (k : Call) (d : Desk) (x : Answer) (e : Desk) : Type 0 where
  pub answer : x ≡ numbers (perform k d).reply
  pub after : e ≡ (perform k d).desk
  pub leaves : lent ≡ (perform k d).lent

-- the same of a call that is lent none
abbrev pub DoneInNumbers : Call → Desk → Answer → Desk → Type 0
DoneInNumbers = DoneInNumbersWith []

-- the question q on the desk of these four is answered with these numbers, and leaves that desk, and `lent` in its buffers
abbrev pub AskedInNumbersWith : List (List ℕ) → Question → Standing → List ℕ → List ℕ → List ℕ → Answer → Type 0
AskedInNumbersWith lent q s store first second x = DoneInNumbersWith lent (Call.Ask q) (desk_of s store first second) x (desk_of s store first second)

abbrev pub AskedInNumbers : Question → Standing → List ℕ → List ℕ → List ℕ → Answer → Type 0
AskedInNumbers = AskedInNumbersWith []

-- ---- show

-- which table is whole, 1 the first and 2 the second, and its N1·N2 bytes; 0 and 0 where the desk is refused
abbrev pub named : Desk → CaseReading → Shown
named d (refused r) = record { table = 0; length = 0 }
named d (content c) = record { table = cond d.standing.second_whole 2 1; length = table_size c }

-- the bytes that these numbers name
abbrev pub named_bytes : Shown → Desk → List ℕ
named_bytes x d = take x.length (cond (eqb x.table 2) d.second d.first)

-- show's export: the table and the length by the desk's examination, and the bytes that they name are what show answers; the desk as it was
pub record ShownInNumbers (d : Desk) (x : Shown) : Type 0 where
  pub names : x ≡ named d (examined Call.Show d)
  pub bytes : perform Call.Show d ≡ record { reply = Reply.Shown (named_bytes x d); desk = d; lent = [] }

-- ---- what a desk holds

-- the refusal's number and part, and zeros; or n, k, N1, N2 and the count of formulas
abbrev pub sized : CaseReading → DeskSizes
sized (refused r) =
    record { number = number_of r; part = part_of r; elements = 0; propositions = 0; states1 = 0; states2 = 0; formulas = 0 }
sized (content c) =
    record {
      number = 0;
      part = 0;
      elements = lattice_size c;
      propositions = (model1 c).propositions;
      states1 = N1 c;
      states2 = N2 c;
      formulas = length c.formulas;
    }
