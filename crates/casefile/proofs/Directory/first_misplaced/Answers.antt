-- `casefile::Directory::first_misplaced` meets its contract: the parts passed so far are placed.
use mathlib.Core.Path.{sym, ◌∙◌}
use Rattle.casefile.specs.Misplaced.{upto_more, upto_stop, upto_done}
use Rattle.casefile.proofs.Directory.first_misplaced.Goals as goal

pub returns-then-not-well_placed : goal.returns-then-not-well_placed
returns-then-not-well_placed c =
    let i = c.loop-i-test.true in
    (upto_stop _ _ _ c.loop-i.invariant i (sym c.well_placed.ensures ∙ c.if-not-well_placed.true), i)

pub loop-i-preserved : goal.loop-i-preserved
loop-i-preserved c = upto_more _ _ _ _ c.loop-i.invariant (sym c.well_placed.ensures ∙ c.if-not-well_placed.false) c.part_end-from.ensures

pub returns : goal.returns
returns c = sym (upto_done _ _ _ c.loop-i.invariant c.loop-i.auto.i-end c.loop-i-test.false)
