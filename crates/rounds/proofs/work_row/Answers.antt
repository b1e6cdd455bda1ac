-- `rounds::work_row` meets its contract: the row that the closure gives, in its part of the table.
use Rattle.std.proofs.Common.{◌*◌, ◌+◌, ◌≤◌, rules, refl, length, get_or, arith}
use Rattle.entries.specs.Table.{entry_in}
use Rattle.entries.specs.Shaped.{shaped}
use Rattle.rounds.specs.Table.{row_same}
use Rattle.rounds.specs.Row.{row_at, row_placed, row_written_lem}
use Rattle.rounds.proofs.work_row.Goals as goal

pub whole_as_slice-prepare : goal.whole_as_slice-prepare
whole_as_slice-prepare g c = omega (arith, c.requires.3)

pub returns : goal.returns
unfolding row_same
returns g c =
    let a = c.args.a.now in
    let t = c.args.t.now in
    let q₁ = c.args.q1.0 in
    let m₁ = t.models.first.bytes.now in
    let m₂ = t.models.second.bytes.now in
    let n₂ = get_or m₂ 0 0 in
    let e = c.write_row.ensures (entry_in a.codes.now.words a.lattice m₁ m₂ t.bytes.now q₁) (λ q y l e. search rules) in
    let u = rw (c.from.ensures, c.states-n2.ensures, c.row.ensures.1, c.row.ensures.0) at e in
    let r = row_at m₁ m₂ t.bytes.now q₁ n₂ q₁ (shaped t) c.requires.1 refl refl in
    let fits : q₁ * n₂ + n₂ ≤ length c.args.out.now = omega (arith, r.within, c.requires.0) in
    rw (c.from.ensures, c.states-n2.ensures) (row_written_lem r refl (row_placed (q₁ * n₂) _ n₂ t.bytes.now c.args.out.now (omega arith) fits u))
