use Rattle.std.proofs.Common.{get_or}
use Rattle.theory.specs.Part.{model_of}
use Rattle.entries.specs.Table.{table_of, FIn}
use Rattle.rounds.specs.Rest.{RestSoFar}
use Rattle.desk_moves.proofs.finishing.work_rows.Given as goal

abbrev pub invariant-loop-q : goal.invariant-loop-q
invariant-loop-q l =
    let m1 = l.whole.models.first.bytes.now in
    let m2 = l.whole.models.second.bytes.now in
    RestSoFar (model_of m1) (model_of m2) (FIn l.a.codes.now.words l.a.lattice m1 m2) (table_of l.whole.bytes.now (get_or m2 0 0)) l.start l.initial.other l.q l.other l.changed
