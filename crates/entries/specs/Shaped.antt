-- What the structs know of their models and tables, as the definitions say it. Rests on Table and Codes.
use Rattle.entries.specs.Table.{Shaped}
use Rattle.entries.specs.Codes.{ModelPair}
use Rattle.entries.specs.declared.table.Models.{Models}
use Rattle.entries.specs.declared.table.Table.{Table}

pub shaped : (t : Table) → Shaped t.models.first.bytes.now t.models.second.bytes.now t.bytes.now
shaped t = record { first = t.models.first.shape; second = t.models.second.shape; same_propositions = t.models.same_propositions; held = t.held }

pub paired : (m : Models) → ModelPair m.first.bytes.now m.second.bytes.now
paired m = record { first = m.first.shape; second = m.second.shape; same_propositions = m.same_propositions }
