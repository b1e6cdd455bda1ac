-- All that a question depends on: its refusals after 12, its answer, and what it leaves in the buffers that it is lent.
-- Rests on Desk, Case and entries' Table.
--   given_table, shown_table: a table that is given as bytes, and the one that a desk shows, entry by entry
--   View: the content, the round, whether it is settled, and the table shown; view_of: that of a desk whose store holds c
use Rattle.std.specs.Prelude.{ℕ, Bool, List}
use Rattle.casefile.specs.Reading.{Content}
use Rattle.entries.specs.Table.{table_of}
use Rattle.desk.specs.Desk.{Desk, whole_table}
use Rattle.desk.specs.Case.{N2}

-- the table that some bytes are, as judge is given them; the shown table
abbrev pub given_table : Content → List ℕ → ℕ → ℕ → ℕ
given_table c t = table_of t (N2 c)

abbrev pub shown_table : Content → Desk → ℕ → ℕ → ℕ
shown_table c d = given_table c (whole_table d)

-- what value, whole, score, share, judge and write are answered from: 'that case with round r shown'
pub record View : Type 0 where
  pub holds : Content
  pub round : ℕ
  pub settled : Bool
  pub shown : ℕ → ℕ → ℕ

abbrev pub view_of : Content → Desk → View
view_of c d = record { holds = c; round = d.standing.round; settled = d.standing.settled; shown = shown_table c d }
