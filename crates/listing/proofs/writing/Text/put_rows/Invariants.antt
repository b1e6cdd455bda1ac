use Rattle.std.proofs.Common.{ℕ, List, get_or}
use Rattle.entries.specs.Table.{table_of}
use Rattle.entries.specs.declared.table.Table.{Table}
use Rattle.listing.specs.Text.{row_text, each}
use Rattle.listing.specs.Lines.{Puts}
use Rattle.listing.proofs.writing.Text.put_rows.Given as goal

-- the line of row q1
abbrev pub line : Table → ℕ → List ℕ
line t = row_text (table_of t.bytes.now (get_or t.models.second.bytes.now 0 0)) (get_or t.models.second.bytes.now 0 0)

-- the rows passed so far are written
abbrev pub invariant-loop-q1 : goal.invariant-loop-q1
invariant-loop-q1 l = Puts l.initial.self (each l.q1 (line l.t)) l.self
