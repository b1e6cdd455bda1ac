-- `casefile::Case::of` meets its contract: all parts are placed where none is misplaced.
use mathlib.Core.Path.{sym}
use native.Mathlib.Omega.{arith}
use Rattle.casefile.specs.Placed.{all_placed}
use Rattle.casefile.proofs.Answered.{place_read}
use Rattle.casefile.proofs.Case.of.Goals as goal

pub invariant_of-result : goal.invariant_of-result
invariant_of-result c = record { placed = all_placed _ _ c.args.directory.has (sym c.in-None.ensures) (omega arith) }

pub returns-in-Some : goal.returns-in-Some
returns-in-Some c = place_read _ c.in-Some.i c.args.directory.has c.in-Some.ensures.0 c.in-Some.ensures.1
