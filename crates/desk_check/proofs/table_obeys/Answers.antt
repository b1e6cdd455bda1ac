-- `desk_check::table_obeys` meets its contract: by the test of the elements of a part.
use Rattle.std.proofs.Common.{◌∙◌}
use Rattle.desk_check.specs.Held.{first_obey}
use Rattle.desk_check.proofs.table_obeys.Goals as goal

pub returns : goal.returns
returns c = c.below.ensures ∙ first_obey c.args.table.now _ _ c.requires
