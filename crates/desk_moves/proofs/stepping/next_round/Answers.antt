-- `desk_moves::next_round` meets its contract: no more entries differ than a table has.
use Rattle.std.proofs.Common.{◌≤◌, arith, le_trans}
use Rattle.std.specs.Prelude.{eqb}
use Rattle.theory.specs.Lowerings.{differing_most}
use Rattle.desk_moves.proofs.stepping.next_round.Goals as goal

pub overflow_add-lowerings : goal.overflow_add-lowerings
overflow_add-lowerings c =
    let p = c.requires in
    let m : c.differing-count.result ≤ 4096 =
    rw (c.differing-count.ensures, c.from.ensures, c.from-2.ensures) (le_trans (differing_most eqb c.args.s.states1 c.args.s.states2 _ _) p.comparable.few) in
    omega (arith, m, p.lowerings-below)
