use Rattle.std.proofs.Common.{get_or}
use Rattle.theory.specs.Part.{model_of}
use Rattle.entries.specs.Table.{table_of, FIn}
use Rattle.rounds.specs.Round.{RoundSoFar}
use Rattle.rounds.proofs.round.Given as goal

abbrev pub invariant-loop-q : goal.invariant-loop-q
invariant-loop-q l =
    let m₁ = l.t.models.first.bytes.now in
    let m₂ = l.t.models.second.bytes.now in
    RoundSoFar (model_of m₁) (model_of m₂) (FIn l.a.codes.now.words l.a.lattice m₁ m₂) (table_of l.t.bytes.now (get_or m₂ 0 0)) l.initial.other l.q l.other l.changed
