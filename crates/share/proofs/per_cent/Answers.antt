-- `share::per_cent` meets its contract: the quotient, or one more where the comparison says so, is per_cent. Assumes nothing.
use Prim.Native.Nat.{◌*◌}
use native.Mathlib.Nat.{mod-lt}
use native.Mathlib.Omega.{arith}
use Rattle.theory.proofs.Share.{per_cent_up, per_cent_down}
use Rattle.share.specs.ShareIn.{per_cent-fits}
use Rattle.share.proofs.per_cent.Goals as goal

pub overflow_mul-rest-2 : goal.overflow_mul-rest-2
overflow_mul-rest-2 c = record { fits = omega (arith, mod-lt (100 * c.args.c) c.requires.0) }

pub overflow_add-rest : goal.overflow_add-rest
overflow_add-rest c = record { fits = omega (arith, mod-lt (100 * c.args.c) c.requires.0) }

pub returns-then-n-rest : goal.returns-then-n-rest
returns-then-n-rest c = per_cent_up c.args.c c.args.n (omega arith)

pub returns : goal.returns
returns c = per_cent_down c.args.c c.args.n (omega arith)

pub overflow_add-result : goal.overflow_add-result
overflow_add-result c = record { fits = omega (arith, per_cent-fits c.requires.0 c.requires.2 (returns-then-n-rest c)) }

pub overflow_cast-result : goal.overflow_cast-result
overflow_cast-result c = record { fits = per_cent-fits c.requires.0 c.requires.2 (returns-then-n-rest c) }

pub overflow_cast-result-2 : goal.overflow_cast-result-2
overflow_cast-result-2 c = record { fits = per_cent-fits c.requires.0 c.requires.2 (returns c) }
