-- `rounds::differing` meets its contract: the bytes compared so far.
use Rattle.std.proofs.Common.{refl, ◌∙◌, arith}
use Rattle.theory.specs.Loop.{counted_none, counted_more}
use Rattle.entries.specs.Joins.{byte_indicator}
use Rattle.rounds.specs.Compared.{compared_all}
use Rattle.rounds.proofs.differing.Goals as goal

pub loop-i-init : goal.loop-i-init
loop-i-init c = counted_none

pub overflow_add-c : goal.overflow_add-c
overflow_add-c c =
    let u = counted_more c.loop-i.invariant refl (c.from-c.ensures ∙ byte_indicator _) in
    record { fits = omega (arith, u.most, c.requires.0) }

pub loop-i-preserved : goal.loop-i-preserved
loop-i-preserved c = counted_more c.loop-i.invariant refl (c.from-c.ensures ∙ byte_indicator _)

pub returns : goal.returns
returns c = let a = c.args in compared_all a.a.now a.b.now a.n1 a.n2 c.loop-i.i c.loop-i.c c.loop-i.invariant (omega arith) (omega arith)
