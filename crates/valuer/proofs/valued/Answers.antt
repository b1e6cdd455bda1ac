-- `valuer::valued` meets its contract: the answer of the valuer at the first byte.
use Rattle.valuer.proofs.Arms.{here_read, part_values}
use Rattle.valuer.proofs.valued.Goals as goal

pub node-requires : goal.node-requires
node-requires c = here_read c.args.m.now.bytes.now _ c.requires.1

pub returns : goal.returns
returns c = part_values c.node.ensures
