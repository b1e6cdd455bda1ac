use Rattle.std.proofs.Common.{ℕ, List, get_or}
use Rattle.listing.specs.Text.{item, blank, each}
use Rattle.listing.specs.Lines.{Puts}
use Rattle.listing.proofs.writing.Text.put_entries.Given as goal

-- entry q, with the blank before it
abbrev pub entry : List ℕ → ℕ → List ℕ
entry row q = item blank (get_or row q 0)

-- the entries passed so far are written
abbrev pub invariant-loop-q : goal.invariant-loop-q
invariant-loop-q l = Puts l.initial.self (each l.q (entry l.row)) l.self
