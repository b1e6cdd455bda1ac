-- `lattice::panel::order` meets its contract: the rule of the constant, computed at all 729 entries. Assumes nothing.
use Rattle.theory.specs.Loop.{tab_at}
use Rattle.theory.specs.Lists.{tab}
use Rattle.lattice.specs.Panel.{panel_order}
use Rattle.lattice.specs.PanelTable.{panel_entry}
use Rattle.lattice.proofs.panel.order.Goals as goal

pub returns : goal.returns
unfolding tab panel_order
returns c = record { at = λ k l. tab_at panel_entry 729 k l }
