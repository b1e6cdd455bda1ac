-- `rounds::inner_joins` meets its contract: the codes of the table, then the inner joins.
use Rattle.std.proofs.Common.{refl}
use Rattle.rounds.specs.Codes.{joins_from}
use Rattle.rounds.proofs.inner_joins.Goals as goal

pub returns : goal.returns
returns c =
    let t = c.args.t.now in
    joins_from c.args.a.now.codes.now.words t.models.first.bytes.now t.models.second.bytes.now t.bytes.now _ _ _ c.encode_columns.ensures c.all_joins.ensures refl refl
