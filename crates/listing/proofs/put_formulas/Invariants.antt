use Rattle.std.proofs.Common.{◌≡◌}
use Rattle.casefile.specs.Reading.{Content, content, case_reading}
use Rattle.listing.specs.Text.{formula_line, each}
use Rattle.listing.specs.Lines.{Puts}
use Rattle.listing.proofs.put_formulas.Given as goal

-- the lines passed so far are written
abbrev pub invariant-loop-f : goal.invariant-loop-f
invariant-loop-f l = (c : Content) → case_reading l.case.bytes.now ≡ content c → Puts l.initial.text (each l.f (formula_line c)) l.text
