-- `valuer::whole` meets its contract: the meet over the initial values, decoded.
use Rattle.valuer.proofs.Arms.{part_whole}
use Rattle.valuer.proofs.whole.Goals as goal

pub returns : goal.returns
returns c =
    part_whole c.requires.0 c.valued-x.ensures _ (rw c.from_initial.ensures at c.decode.ensures)
