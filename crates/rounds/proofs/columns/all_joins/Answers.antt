-- `rounds::all_joins` meets its contract: the columns below q2 are written.
use Rattle.std.proofs.Common.{ℕ, ◌≡◌, ◌≤◌, ◌∙◌, get_or, length, arith, length-take-le}
use Rattle.std.proofs.Math.ListN.{replicate}
use Rattle.entries.specs.Words.{filled_part, filled_same}
use Rattle.rounds.specs.Rows.{rows_column}
use Rattle.rounds.proofs.columns.all_joins.Goals as goal

pub join_columns-requires : goal.join_columns-requires
join_columns-requires c =
    let n = c.states-n1.result in
    let most : n ≤ 64 = omega (arith, c.states-n1.ensures, c.args.m.now.first.shape.states_most) in
    let k = length-take-le {A = ℕ} n (replicate 64 0) most in
    (omega arith, omega (arith, k, most), filled_part n most most (filled_same 0 64 (omega arith)))

pub loop-q2-preserved : goal.loop-q2-preserved
loop-q2-preserved c =
    let few = c.args.m.now.second.shape.states_most in
    let k = length-take-le {A = ℕ} c.states-n1.result (replicate 64 0) (omega (arith, c.states-n1.ensures, c.args.m.now.first.shape.states_most)) ∙ c.states-n1.ensures in
    let n : length c.join_columns.new.row ≡ get_or c.args.m.now.first.bytes.now 0 0 = omega (arith, k) in
    rows_column c.loop-q2.invariant (omega arith) (rw n at c.spread.ensures) (rw k at c.join_columns.ensures.at)
