-- `entries::encode_rows` meets its contract: the rows below q are written.
use Rattle.std.proofs.Common.{◌*◌, ap, get_or, take, drop, arith}
use Rattle.elements.specs.Words.{code_in}
use Rattle.entries.specs.Words.{slice_word, rows_part}
use Rattle.entries.proofs.encode_rows.Goals as goal

pub loop-q-preserved : goal.loop-q-preserved
loop-q-preserved c =
    let a = c.args in
    let q = c.loop-q.q in
    let n₂ = get_or a.t.now.models.second.bytes.now 0 0 in
    let bytes = a.t.now.bytes.now in
    let e = rw (c.row.ensures.1, c.row.ensures.0) at c.encode.ensures in
    rows_part (λ r. code_in a.w.now.words (get_or (take n₂ (drop (q * n₂) bytes)) r 0)) c.loop-q.invariant a.t.now.models.second.shape.states_most
    (omega (arith, c.requires)) (omega (arith, c.states-n2.ensures)) e (λ r l. ap (code_in a.w.now.words) (slice_word bytes (q * n₂) n₂ r l))
