-- `lattice::tests::all_of` meets its contract: the bits below the counter are set. Assumes nothing.
use mathlib.Core.Path.{refl, sym, ap, ◌∙◌}
use mathlib.Core.Bool.{true}
use Prim.Native.Nat.{ℕ, ◌*◌, ◌%◌, ◌^◌}
use native.Mathlib.Omega.{arith}
use lib.Bits.{bit_or}
use Rattle.theory.specs.Loop.{reached}
use Rattle.elements.specs.Bits.{bits_begin, bits_more}
use Rattle.lattice_codes.specs.Tests.{all_of}
use Rattle.lattice.proofs.tests.all_of.Goals as goal

pub loop-a-init : goal.loop-a-init
loop-a-init c = (omega arith, sym (bits_begin (λ a. true)))

pub loop-a-preserved : goal.loop-a-preserved
loop-a-preserved c =
    let a = c.loop-a.a in
    (omega arith, ap (λ (y : ℕ). bit_or y ((1 * 2 ^ a) % 2 ^ 64)) c.loop-a.invariant.1 ∙ bits_more a (λ a. true) 1 (omega arith) refl)

pub returns : goal.returns
returns c = let i = c.loop-a.invariant in i.1 ∙ reached all_of i.0 c.loop-a-test.false
