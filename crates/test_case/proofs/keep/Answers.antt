-- `test_case::keep` may write: an accepted case is placed, and its gapless form fits the store.
use Rattle.std.proofs.Common.{arith}
use Rattle.casefile.proofs.Caller.{when_accepted}
use Rattle.test_case.proofs.keep.Goals as goal

pub invariant_of-case : goal.invariant_of-case
invariant_of-case g c = record { placed = (when_accepted c.args.bytes.now _ _ _ c.check.ensures c.in-Ok.is).placed }

pub write-requires : goal.write-requires
write-requires g c = omega (arith, (when_accepted c.args.bytes.now _ _ _ c.check.ensures c.in-Ok.is).short, c.fits-store)
