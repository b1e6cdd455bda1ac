-- `entries::list_blocks` meets its contract: the blocks before block b are listed.
use Rattle.std.proofs.Common.{◌≡◌, ◌+◌, ◌*◌, ◌≤◌, ◌<◌, length, ap, ◌∙◌, not, eqb, arith}
use Rattle.theory.specs.Loop.{indicator_most}
use Rattle.entries.specs.Joins.{words_join, words_joined, byte_indicator, listed_turn}
use Rattle.entries.proofs.joins.list_blocks.Goals as goal

pub loop-b-preserved : goal.loop-b-preserved
loop-b-preserved c =
    let i = c.loop-b.invariant in
    let a = c.loop-b.b * 16 in
    let some = not (eqb c.join_words.result 0) in
    let e = c.from-count.ensures ∙ byte_indicator some in
    let z : a + 16 ≡ (c.loop-b.b + 1) * 16 = omega arith in
    let room : c.loop-b.count < length c.loop-b.starts = omega arith in
    let fits : a + 16 ≤ 64 = omega arith in
    let j = words_joined c.args.row.now a _ (omega arith) c.join_words.ensures ∙ ap (words_join c.args.row.now a) (omega arith) in
    (omega (arith, e, indicator_most some), rw (← z, e) (listed_turn some i.1 room fits (ap (λ x. not (eqb x 0)) j)))
