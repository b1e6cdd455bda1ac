-- `lattice::tests::Words::irreducibles` meets its contract: the bits below the counter are set. Assumes nothing.
use Rattle.std.proofs.Common.{◌≡◌, refl, ℕ, Bool, true, false, ◌*◌, ◌%◌, ◌^◌, sym, ap, ◌∙◌, arith, length, bit_or}
use mir.Val.{bool_byte}
use Rattle.theory.specs.Simulation.{indicator}
use Rattle.theory.specs.Loop.{reached}
use Rattle.elements.specs.Bits.{bits, bits_begin, bits_more}
use Rattle.lattice_codes.specs.Tests.{words_in, irreducible}
use Rattle.lattice.proofs.tests.Words.irreducibles.Goals as goal

byte : (b : Bool) → bool_byte b ≡ indicator b
byte true = refl
byte false = refl

pub loop-a-init : goal.loop-a-init
loop-a-init c = sym (bits_begin (irreducible (length c.args.self.words.now) (words_in c.args.self.words.now)))

pub loop-a-preserved : goal.loop-a-preserved
loop-a-preserved c =
    let a = c.loop-a.a in
    let p = irreducible (length c.args.self.words.now) (words_in c.args.self.words.now) in
    ap (λ (y : ℕ). bit_or y ((c.from.result * 2 ^ a) % 2 ^ 64)) c.loop-a.invariant ∙ bits_more a p c.from.result (omega arith) (c.from.ensures ∙ byte c.is_irreducible.result ∙ ap indicator c.is_irreducible.ensures)

pub returns : goal.returns
returns c = c.loop-a.invariant ∙ reached (λ (n : ℕ). bits n (irreducible (length c.args.self.words.now) (words_in c.args.self.words.now))) (omega arith) (omega arith)
