-- `rounds::is_post_fixed` meets its contract: the rows below q are at or below those of F.
use Rattle.std.proofs.Common.{ℕ, ◌≡◌, ◌*◌, ◌<◌, refl, sym, ◌∙◌, get_or, arith, length-take-le}
use Rattle.std.proofs.Math.ListN.{replicate}
use Rattle.theory.specs.Loop.{passed_none, passed_more, passed_stop, passed_all}
use Rattle.theory.specs.Test.{all_below}
use Rattle.entries.specs.Shaped.{shaped}
use Rattle.rounds.specs.Table.{post_fixed_in}
use Rattle.rounds.specs.Row.{row_at}
use Rattle.elements.specs.Words.{code_in}
use Rattle.rounds.specs.RowCodes.{row_within, row_within_lem, row_compared, post_fixed_in_lem}
use Rattle.rounds.proofs.is_post_fixed.Goals as goal
use Rattle.rounds.proofs.is_post_fixed.Goals.{After-all_at_most, After-inner_joins}

-- what the comparison of row q says
row-found : (c : After-all_at_most) → let t = c.args.t.now in
    c.all_at_most.result ≡ row_within c.args.a.now.codes.now.words (code_in c.args.a.now.codes.now.words c.args.a.now.lattice.top.0) t.models.first.bytes.now t.models.second.bytes.now t.bytes.now c.inner_joins.new.joins c.loop-q.q
row-found c =
    let t = c.args.t.now in
    let m₁ = t.models.first.bytes.now in
    let m₂ = t.models.second.bytes.now in
    let q = c.loop-q.q in
    let l : q < get_or m₁ 0 0 = omega arith in
    let r = row_at m₁ m₂ t.bytes.now q (get_or m₂ 0 0) q (shaped t) l refl refl in
    let m = t.models.second.shape.states_most in
    let k = length-take-le {A = ℕ} c.states.result (replicate 64 0) (omega (arith, m, c.states.ensures)) in
    let e = rw c.row.ensures.0 at c.all_at_most.ensures in
    row_within_lem _ _ m₁ m₂ t.bytes.now c.inner_joins.new.joins _ r refl c.row_from.ensures (row_compared _ t.bytes.now _ (q * get_or m₂ 0 0) (get_or m₂ 0 0) (omega (arith, r.within, t.held)) (omega (arith, k, c.states.ensures)) e)

-- the test of all rows by codes is that of the table
all-rows : (c : After-inner_joins) → let a = c.args.a.now in let t = c.args.t.now in
    all_below (get_or t.models.first.bytes.now 0 0) (row_within a.codes.now.words (code_in a.codes.now.words a.lattice.top.0) t.models.first.bytes.now t.models.second.bytes.now t.bytes.now c.inner_joins.new.joins)
    ≡ post_fixed_in a.codes.now.words a.lattice t.models.first.bytes.now t.models.second.bytes.now t.bytes.now
all-rows c = post_fixed_in_lem c.args.a.now.coded c.inner_joins.ensures

pub loop-q-init : goal.loop-q-init
loop-q-init c = passed_none

pub returns-then-not-all_at_most : goal.returns-then-not-all_at_most
returns-then-not-all_at_most c =
    passed_stop c.loop-q.invariant (omega arith) (sym (row-found (goal.at.returns-then-not-all_at_most c).After-all_at_most) ∙ c.if-not-all_at_most.true)
    ∙ all-rows (goal.at.returns-then-not-all_at_most c).After-inner_joins

pub loop-q-preserved : goal.loop-q-preserved
loop-q-preserved c = passed_more c.loop-q.invariant (sym (row-found (goal.at.loop-q-preserved c).After-all_at_most) ∙ c.if-not-all_at_most.false)

pub returns : goal.returns
returns c = passed_all c.loop-q.invariant (omega arith) (omega arith) ∙ all-rows (goal.at.returns c).After-inner_joins
