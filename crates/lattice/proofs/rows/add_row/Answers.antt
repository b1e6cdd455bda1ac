-- `lattice::rows::add_row` meets its contract: the words below the counter have their bit. Assumes nothing.
use Rattle.std.proofs.Common.{◌≡◌, ap, ◌∙◌, arith, ℕ, ◌+◌, ◌*◌, ◌%◌, ◌^◌, get_or, bit_or}
use Rattle.lattice.specs.Rows.{rowed_none, rowed_more, rowed_all}
use Rattle.lattice.proofs.rows.add_row.Goals as goal

pub loop-j-init : goal.loop-j-init
loop-j-init c = rowed_none

pub loop-j-preserved : goal.loop-j-preserved
loop-j-preserved c =
    let z : c.loop-j.j ≡ 0 + c.loop-j.j = omega arith in
    rowed_more c.loop-j.invariant (omega arith)
    (ap (λ (x : ℕ). bit_or (get_or c.loop-j.down c.loop-j.j 0) ((x * 2 ^ c.args.i) % 2 ^ 64)) (c.from.ensures ∙ ap (λ (x : ℕ). get_or c.args.row.now x 0) z))

pub returns : goal.returns
returns c = rowed_all c.loop-j.invariant (omega arith) (omega arith)
