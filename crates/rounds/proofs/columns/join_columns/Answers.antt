-- `rounds::join_columns` meets its contract: the joins over the states below r, all of which are top where it ends early.
use Rattle.std.proofs.Common.{rules, ◌≡◌, ℕ, ◌+◌, ◌*◌, sym, ap, ◌∙◌, get_or, length, bit_and, bit_or, arith}
use Rattle.std.specs.Int.Bits.{and_zero_l, or_zero_r}
use Rattle.elements.specs.Words.{code_in}
use Rattle.elements.specs.Laws.{within_trans, and_left}
use Rattle.entries.specs.Words.{row_folded_none, row_folded_more, replaced_same, replaced_part}
use Rattle.rounds.specs.Codes.{by_column}
use Rattle.rounds.specs.Early.{lower_fold, at_top, joins_end, top_of}
use Rattle.rounds.proofs.columns.join_columns.Goals as goal

pub loop-r-init : goal.loop-r-init
loop-r-init c = row_folded_none c.requires.2

pub loop-r-preserved-then-c-eq0 : goal.loop-r-preserved-then-c-eq0
loop-r-preserved-then-c-eq0 c =
    let a = c.args in
    let r = c.loop-r.r in
    let t : ℕ → ℕ = λ i. get_or a.table.now (r * 64 + i) 0 in
    row_folded_more c.loop-r.invariant
    (replaced_same (λ i l. sym (ap (bit_or (get_or c.loop-r.row i 0)) (ap (λ (x : ℕ). bit_and x (t i)) c.if-c-eq0.true ∙ and_zero_l (t i)) ∙ or_zero_r (get_or c.loop-r.row i 0))))
    (λ q x. ap (λ (y : ℕ). bit_or x (bit_and y (by_column a.table.now q r))) (c.code-c.ensures ∙ ap (code_in a.a.now.codes.now.words) c.transition.ensures))

pub returns-then-all-top : goal.returns-then-all-top
returns-then-all-top c =
    let a = c.args in
    let r = c.loop-r.r in
    let k = c.code-c.result in
    let n : length c.loop-r.row ≡ length c.args.row.now = omega arith in
    joins_end
    (row_folded_more c.loop-r.invariant
    (replaced_part (λ x y. bit_or x (bit_and k y)) a.table.now (r * 64) _ (omega arith) (rw n at (c.replace-all.ensures.replaced (λ x y. bit_or x (bit_and k y)) (λ x y z e. search rules))))
    (λ q x. ap (λ (y : ℕ). bit_or x (bit_and y (by_column a.table.now q r))) (c.code-c.ensures ∙ ap (code_in a.a.now.codes.now.words) c.transition.ensures)))
    (at_top (lower_fold c.code-top.result (length c.loop-r.row) c.replace-all.new.row) (omega (arith, n)) (sym (c.replace-all.ensures.folded bit_and (λ x y z e. search rules)) ∙ c.if-all-top.true)) (λ q i. within_trans (and_left _ _) ((top_of a.a.now.coded c.code-top.ensures).at _)) (omega arith)

pub loop-r-preserved : goal.loop-r-preserved
loop-r-preserved c =
    let a = c.args in
    let r = c.loop-r.r in
    let k = c.code-c.result in
    let n : length c.loop-r.row ≡ length c.args.row.now = omega arith in
    row_folded_more c.loop-r.invariant
    (replaced_part (λ x y. bit_or x (bit_and k y)) a.table.now (r * 64) _ (omega arith) (rw n at (c.replace-all.ensures.replaced (λ x y. bit_or x (bit_and k y)) (λ x y z e. search rules))))
    (λ q x. ap (λ (y : ℕ). bit_or x (bit_and y (by_column a.table.now q r))) (c.code-c.ensures ∙ ap (code_in a.a.now.codes.now.words) c.transition.ensures))
