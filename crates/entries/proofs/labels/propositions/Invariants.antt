use Rattle.std.proofs.Common.{get_or, bit_and}
use Rattle.theory.specs.Part.{model_of}
use Rattle.entries.specs.Words.{RowFolded}
use Rattle.entries.specs.Codes.{iff_code}
use Rattle.entries.proofs.labels.propositions.Given as goal

abbrev pub invariant-loop-p : goal.invariant-loop-p
invariant-loop-p l = RowFolded bit_and (λ q. l.fn.top) (λ q p. iff_code l.w.words ((model_of l.m.first.bytes.now).label l.q1.0 p) ((model_of l.m.second.bytes.now).label q p)) l.p (get_or l.m.second.bytes.now 0 0) l.row
