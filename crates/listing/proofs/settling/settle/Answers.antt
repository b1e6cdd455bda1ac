-- `listing::settle` meets its contract: the first table holds round r, and every round up to r differs from the one before.
use Rattle.std.proofs.Common.{◌≡◌, ◌∙◌, ◌+◌, arith}
use Rattle.model.specs.Places.{prod_le}
use Rattle.listing.specs.Settling.{rounds-few, next-round, settled-done, settled-read}
use Rattle.listing.proofs.settling.settle.Goals as goal

pub returns-then-not-round : goal.returns-then-not-round
returns-then-not-round c = settled-read c.loop-r.invariant.holds c.round.ensures c.if-not-round.true

pub returns-then-not-round-2 : goal.returns-then-not-round-2
returns-then-not-round-2 c =
    let next-held = next-round c.loop-r.invariant.holds c.round.ensures c.if-not-round.false in
    let r = c.loop-r.r in
    let e : r + 1 + 1 ≡ r + 2 = omega arith in
    rw e at (settled-done next-held c.round-in-loop-r.ensures c.if-not-round-2.true)

pub loop-r-preserved : goal.loop-r-preserved
loop-r-preserved c =
    let next-held = next-round c.loop-r.invariant.holds c.round.ensures c.if-not-round.false in
    let r = c.loop-r.r in
    let e : r + 1 + 1 ≡ r + 2 = omega arith in
    let m = c.args.models.now in
    let held = rw e at (next-round next-held c.round-in-loop-r.ensures c.if-not-round-2.false) in
    record {
      holds = held;
      few = omega (arith, rounds-few c.requires.laws held, prod_le _ _ 64 64 m.first.shape.states_most m.second.shape.states_most);
      same_first = c.round-in-loop-r.ensures.worked.same_length ∙ c.loop-r.invariant.same_first;
      same_second = c.round.ensures.worked.same_length ∙ c.loop-r.invariant.same_second;
    }
