-- `rounds::encode_columns` meets its contract: the columns below q are written.
use Rattle.std.proofs.Common.{ℕ, ◌≡◌, ◌*◌, ap, ◌∙◌, get_or, length, arith, length-take-le}
use Rattle.std.proofs.Math.ListN.{replicate}
use Rattle.elements.specs.Words.{code_in}
use Rattle.entries.specs.Words.{low_at, slice_word}
use Rattle.rounds.specs.Rows.{rows_column}
use Rattle.rounds.proofs.columns.encode_columns.Goals as goal

pub loop-q-preserved : goal.loop-q-preserved
loop-q-preserved c =
    let t = c.args.t.now in
    let q = c.loop-q.q in
    let n₂ = get_or t.models.second.bytes.now 0 0 in
    let e = rw (c.row.ensures.1, c.row.ensures.0) at c.encode.ensures in
    let few = t.models.first.shape.states_most in
    let m = t.models.second.shape.states_most in
    let k = length-take-le {A = ℕ} c.states.result (replicate 64 0) (omega (arith, m, c.states.ensures)) in
    let n : length c.encode.new.out ≡ n₂ = omega (arith, k, c.states.ensures) in
    rows_column c.loop-q.invariant (omega arith) (rw n at c.spread.ensures)
    (λ i l. low_at _ _ _ e (omega (arith, k, c.states.ensures)) i l ∙ ap (code_in c.args.w.now.words) (slice_word t.bytes.now (q * n₂) n₂ i l))
