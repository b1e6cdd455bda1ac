-- `entries::join` meets its contract: a join that never is top, and one that is within a block.
use Rattle.std.proofs.Common.{refl}
use Rattle.entries.specs.Joins.{joined-top, joined-all}
use Rattle.entries.proofs.joins.join.Goals as goal

pub end_in_block-requires : goal.end_in_block-requires
end_in_block-requires c =
    let b = c.before_top-code.ensures in
    let f = b.found c.in-Some.i c.in-Some.is in
    (f.1, c.requires.0, f.0, b.not_top, f.2)

pub returns-in-None : goal.returns-in-None
returns-in-None c =
    let r = c.args.r.now in
    let b = c.before_top-code.ensures in
    joined-all r.top r.row.now c.args.codes.now 0 r.within r.gap (b.none c.in-None.is) b.not_top

pub returns-in-Some : goal.returns-in-Some
returns-in-Some c = let r = c.args.r.now in joined-top r.top r.row.now c.args.codes.now 0 r.within r.gap refl c.end_in_block.ensures
