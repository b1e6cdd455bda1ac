-- `entries::propositions` meets its contract: the meets over the propositions below p.
use Rattle.std.proofs.Common.{ℕ, refl, ap, arith, bit_and, length-take-le}
use Rattle.theory.specs.Part.{model_of}
use Rattle.entries.specs.Words.{row_folded_none, row_folded_more}
use Rattle.entries.specs.Codes.{iff_code}
use Rattle.entries.proofs.labels.propositions.Goals as goal

pub loop-p-init : goal.loop-p-init
loop-p-init c = row_folded_none (record { at = λ q l. c.fill.ensures.clones q 0 (omega (arith, length-take-le c.states.result c.args.out.now (omega (arith, c.states.ensures, c.requires.1)), c.states.ensures)) refl })

pub loop-p-preserved : goal.loop-p-preserved
loop-p-preserved c =
    row_folded_more c.loop-p.invariant c.meet_equivalent.ensures
    (λ q x. ap (λ (y : ℕ). bit_and x (iff_code c.args.w.now.words y ((model_of c.args.m.now.second.bytes.now).label q c.loop-p.p))) c.label.ensures)
