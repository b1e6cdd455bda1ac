-- `casefile::Case::write` meets its contract: the count, the pairs, then the parts.
use native.Mathlib.Omega.{arith}
use Rattle.casefile.proofs.WriterLaws.{directory-fits, case_written}
use Rattle.casefile.proofs.Case.write.Goals as goal

pub bounds-out-0 : goal.bounds-out-0
bounds-out-0 c = omega (arith, directory-fits c.args.self.bytes.now c.args.out.now c.requires)

pub returns : goal.returns
returns c = case_written c.args.self.bytes.now c.args.out.now c.requires _ _ c.write_pairs.ensures c.write_parts.ensures
