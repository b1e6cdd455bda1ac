-- `lattice::tests::Words::is_closed` meets its contract: the rows passed are closed. Assumes nothing.
use Rattle.std.proofs.Common.{rules, ◌≡◌, refl, sym, ◌∙◌, arith, length}
use Rattle.theory.specs.Test.{all_below}
use Rattle.theory.specs.Loop.{passed_none, passed_more, passed_stop, passed_all}
use Rattle.lattice_codes.specs.Tests.{words_in, both, is_word, pair_closed, closed, row_skip, row_tested}
use Rattle.lattice.proofs.Ranges.{all_by_range}
use Rattle.lattice.proofs.tests.Words.is_closed.Goals as goal
use Rattle.lattice.proofs.tests.Words.is_closed.Goals.{After-all-closed}
use Rattle.lattice.proofs.tests.Words.is_closed.Given.{Over}

pub loop-a-init : goal.loop-a-init
loop-a-init g c = passed_none

pub loop-a-preserved-then-k-mask : goal.loop-a-preserved-then-k-mask
loop-a-preserved-then-k-mask g c = passed_more c.loop-a.invariant (sym (row_skip (words_in c.args.self.words.now) _ _ g.joins _ _ c.bit-k.ensures c.if-k-mask.true))

-- the test of a row
row : (g : Over) (c : After-all-closed g) → c.all-closed.result ≡ all_below (length c.args.self.words.now) (pair_closed (length c.args.self.words.now) (words_in c.args.self.words.now) c.args.mask g.joins c.loop-a.a-counter)
row g c =
    let n = length c.args.self.words.now in
    let f = words_in c.args.self.words.now in
    all_by_range n (λ b. is_word n f (both g.joins (f c.loop-a.a-counter) (f b))) c.all-closed.ensures.ran refl (λ x b q k. search (rules, c.requires.1.1))
    ∙ row_tested f n c.args.mask g.joins c.loop-a.a-counter _ c.bit-k.ensures c.if-k-mask.false

pub returns-then-not-closed : goal.returns-then-not-closed
unfolding closed
returns-then-not-closed g c = passed_stop c.loop-a.invariant c.loop-a-test.true (sym (row g (goal.at.returns-then-not-closed g c).After-all-closed) ∙ c.if-not-closed.true)

pub loop-a-preserved : goal.loop-a-preserved
loop-a-preserved g c = passed_more c.loop-a.invariant (sym (row g (goal.at.loop-a-preserved g c).After-all-closed) ∙ c.if-not-closed.false)

pub returns : goal.returns
unfolding closed
returns g c = passed_all c.loop-a.invariant (omega arith) (omega arith)
