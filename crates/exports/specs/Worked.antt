-- What the export of one entry of the next round says. It is no call of document 01. Rests on desk's Desk, Case and View, casefile's Reading, theory's
-- Pairs, and refusal's Number.
--   refused_entry, worked_entry: its answer
use Rattle.std.specs.Prelude.{ℕ, cond, ◌&&◌, ltb}
use Rattle.theory.specs.Pairs.{pairs}
use Rattle.refusal.specs.declared.Refusal.{Refusal}
use Rattle.refusal.specs.declared.Refusal.TheVariants.{OutOfRange}
use Rattle.refusal.specs.Number.{number_of, part_of}
use Rattle.casefile.specs.Reading.{CaseReading, refused, content}
use Rattle.desk.specs.Desk.{Desk}
use Rattle.desk.specs.Case.{ops, model1, model2, N1, N2, operator}
use Rattle.desk.specs.View.{shown_table}
use Rattle.exports.specs.declared.WorkedEntry.{WorkedEntry}

-- the refusal's number and part, and zeros
abbrev pub refused_entry : Refusal → WorkedEntry
refused_entry r = record { number = number_of r; part = part_of r; value = 0; pairs = 0 }

-- entry (q₁, q₂) of F of the shown table, and 'how many pairs (q1', q2') it looked at'; refused as every call that reads, and with 13 where q₁ or q₂ is no state
abbrev pub worked_entry : ℕ → ℕ → Desk → CaseReading → WorkedEntry
worked_entry q₁ q₂ d (refused r) = refused_entry r
worked_entry q₁ q₂ d (content c) =
    cond (ltb q₁ (N1 c) && ltb q₂ (N2 c))
    (record { number = 0; part = 0; value = operator c (shown_table c d) q₁ q₂; pairs = pairs (ops c) (model1 c) (model2 c) (shown_table c d) q₁ q₂ })
    (refused_entry OutOfRange)
