use Rattle.theory.specs.Lists.{Filled}
use Rattle.rounds.specs.Codes.{initial_code}
use Rattle.rounds.proofs.initial_codes.Given as goal

abbrev pub invariant-loop-q : goal.invariant-loop-q
invariant-loop-q l = Filled (initial_code l.w.words l.m.bytes.now) l.q l.x-items
