-- `rounds::row_from` meets its contract: the meets over the states below q, all of which are bottom where it ends early.
use Rattle.std.proofs.Common.{rules, ◌≡◌, ℕ, ◌+◌, ◌*◌, sym, ap, ◌∙◌, get_or, length, bit_and, bit_or, arith}
use Rattle.elements.proofs.Folds.{top_same}
use Rattle.elements.specs.Words.{code_in, negated_code_in}
use Rattle.entries.specs.Words.{row_folded_none, row_folded_more, replaced_same, replaced_part}
use Rattle.entries.specs.Codes.{propositions_within, row_folded_within}
use Rattle.rounds.specs.Codes.{by_row}
use Rattle.rounds.specs.Early.{upper_fold, at_bottom, meets_end}
use Rattle.rounds.proofs.columns.row_from.Goals as goal

pub loop-q-init : goal.loop-q-init
loop-q-init c = row_folded_none (rw c.code-top.ensures at c.propositions.ensures)

pub loop-q-preserved-then-c-top : goal.loop-q-preserved-then-c-top
loop-q-preserved-then-c-top c =
    let a = c.args in
    let m = a.m.now in
    let q = c.loop-q.q in
    let t : ℕ → ℕ = λ i. get_or a.joins.now (q * 64 + i) 0 in
    let h = row_folded_within (code_in a.a.now.codes.now.words a.a.now.lattice.top.0) _ _ (λ r l. propositions_within a.a.now.codes.now.words (code_in a.a.now.codes.now.words a.a.now.lattice.top.0) m.first.bytes.now m.second.bytes.now a.q1.0 r) c.loop-q.invariant in
    row_folded_more c.loop-q.invariant
    (replaced_same (λ i l. top_same (h.at i l) (t i) ∙ ap (λ (x : ℕ). bit_and (get_or c.loop-q.out i 0) (bit_or x (t i))) (sym (c.if-c-top.true ∙ c.code-top.ensures))))
    (λ r x. ap (λ (y : ℕ). bit_and x (bit_or y (by_row a.joins.now q r))) (c.negated_code-c.ensures ∙ ap (negated_code_in a.a.now.codes.now.words) c.transition.ensures))

pub returns-then-any-eq0 : goal.returns-then-any-eq0
returns-then-any-eq0 c =
    let a = c.args in
    let q = c.loop-q.q in
    let k = c.negated_code-c.result in
    let few = a.m.now.second.shape.states_most in
    let n : length c.loop-q.out ≡ get_or a.m.now.second.bytes.now 0 0 = omega (arith, c.requires.1) in
    meets_end {n = get_or a.m.now.first.bytes.now 0 0}
    (row_folded_more c.loop-q.invariant
    (replaced_part (λ x y. bit_and x (bit_or k y)) a.joins.now (q * 64) _ (omega arith) (rw n at (c.replace-any.ensures.replaced (λ x y. bit_and x (bit_or k y)) (λ x y z e. search rules))))
    (λ r x. ap (λ (y : ℕ). bit_and x (bit_or y (by_row a.joins.now q r))) (c.negated_code-c.ensures ∙ ap (negated_code_in a.a.now.codes.now.words) c.transition.ensures)))
    (at_bottom (upper_fold (length c.loop-q.out) c.replace-any.new.row) (omega (arith, n)) (sym (c.replace-any.ensures.folded bit_or (λ x y z e. search rules)) ∙ c.if-any-eq0.true)) (omega arith)

pub loop-q-preserved : goal.loop-q-preserved
loop-q-preserved c =
    let a = c.args in
    let q = c.loop-q.q in
    let k = c.negated_code-c.result in
    let few = a.m.now.second.shape.states_most in
    let n : length c.loop-q.out ≡ get_or a.m.now.second.bytes.now 0 0 = omega (arith, c.requires.1) in
    row_folded_more c.loop-q.invariant
    (replaced_part (λ x y. bit_and x (bit_or k y)) a.joins.now (q * 64) _ (omega arith) (rw n at (c.replace-any.ensures.replaced (λ x y. bit_and x (bit_or k y)) (λ x y z e. search rules))))
    (λ r x. ap (λ (y : ℕ). bit_and x (bit_or y (by_row a.joins.now q r))) (c.negated_code-c.ensures ∙ ap (negated_code_in a.a.now.codes.now.words) c.transition.ensures))
