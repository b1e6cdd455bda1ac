-- `formula::node`, which calls itself: the measure is the bytes from the position on. Each return is a law of the arm.
use Prim.Native.Nat.{ℕ, ◌<◌, ◌-◌}
use mathlib.Core.Path.{◌≡◌, refl}
use mathlib.Core.List.{List}
use mathlib.Core.Logic.{⊎_elim}
use lib.ListN.{length}
use native.Mathlib.Omega.{arith}
use Rattle.formula_tokens.specs.declared.Token.{Token}
use Rattle.formula_tokens.specs.Tokens.{token_size}
use Rattle.formula_tokens.specs.Sizes.{Stands, stands, stands-within}
use Rattle.formula.proofs.Laws.{forward, shallow, at_bottom, at_top, at_literal, at_variable, at_two, at_two-broken, at_next, at_fixpoint, at_fourth, at_end, at_broken}
use Rattle.formula.proofs.+node.Goals as goal

-- a token of one byte, within the part, so that a call at the next place has fewer bytes left
fewer : {f : List ℕ} {at end t : ℕ} {u : Token} → Stands f at u end → token_size u ≡ 1 → length f - at ≡ t → length f - end < t
fewer w l m = omega (arith, w.ends, (stands-within w (omega arith)).0)

pub node-requires : goal.node-requires
unfolding token_size
node-requires t c = (fewer (stands c.token_at-token.ensures c.size.ensures c.in-Two.is) refl c.decreases, c.requires)

pub node-requires-in-Two : goal.node-requires-in-Two
unfolding token_size
node-requires-in-Two t c =
    let h = forward _ c.in_ok-first-in-Two.ensures in
    let l = fewer (stands c.token_at-token.ensures c.size.ensures c.in-Two.is) refl c.decreases in
    (omega (arith, h, l), c.requires)

pub node-requires-in-Next : goal.node-requires-in-Next
unfolding token_size
node-requires-in-Next t c = (fewer (stands c.token_at-token.ensures c.size.ensures c.in-Next.is) refl c.decreases, c.requires)

pub node-requires-in-Fixpoint : goal.node-requires-in-Fixpoint
unfolding token_size
node-requires-in-Fixpoint t c = (fewer (stands c.token_at-token.ensures c.size.ensures c.in-Fixpoint.is) refl c.decreases, (omega arith, c.requires.1))

pub next_of-facts-requires : goal.next_of-facts-requires
next_of-facts-requires t c = shallow _ c.in_ok-within-in-Next.ensures c.requires.1

pub returns-in-Bottom : goal.returns-in-Bottom
returns-in-Bottom t c =
    rw c.leaf.ensures
    (⊎_elim (λ e. at_bottom c.requires.0 (stands c.token_at-token.ensures c.size.ensures e))
    (λ e. at_top c.requires.0 (stands c.token_at-token.ensures c.size.ensures e)) c.in-Bottom.is)

pub returns-in-Literal : goal.returns-in-Literal
returns-in-Literal t c = rw c.number_below.ensures (at_literal _ _ c.requires.0 (stands c.token_at-token.ensures c.size.ensures c.in-Literal.is))

pub returns-in-Variable : goal.returns-in-Variable
returns-in-Variable t c = rw c.number_below-in-Variable.ensures (at_variable _ c.requires.0 (stands c.token_at-token.ensures c.size.ensures c.in-Variable.is))

pub returns-in_err-first-in-Two : goal.returns-in_err-first-in-Two
returns-in_err-first-in-Two t c = rw c.from_residual.ensures (at_two-broken _ (stands c.token_at-token.ensures c.size.ensures c.in-Two.is) c.in_err-first-in-Two.ensures)

pub returns-in_err-second-in-Two : goal.returns-in_err-second-in-Two
returns-in_err-second-in-Two t c =
    rw c.from_residual-in_err-second-in-Two.ensures
    (at_two _ (stands c.token_at-token.ensures c.size.ensures c.in-Two.is) _ c.in_ok-first-in-Two.ensures c.in_err-second-in-Two.ensures)

pub returns-in_ok-second-in-Two : goal.returns-in_ok-second-in-Two
returns-in_ok-second-in-Two t c =
    rw c.two_of-facts.ensures
    (at_two _ (stands c.token_at-token.ensures c.size.ensures c.in-Two.is) _ c.in_ok-first-in-Two.ensures c.in_ok-second-in-Two.ensures)

pub returns-in_err-within-in-Next : goal.returns-in_err-within-in-Next
returns-in_err-within-in-Next t c =
    rw c.from_residual-in_err-within-in-Next.ensures (at_next _ c.in_err-within-in-Next.ensures (stands c.token_at-token.ensures c.size.ensures c.in-Next.is))

pub returns-in_ok-within-in-Next : goal.returns-in_ok-within-in-Next
returns-in_ok-within-in-Next t c = rw c.next_of-facts.ensures (at_next _ c.in_ok-within-in-Next.ensures (stands c.token_at-token.ensures c.size.ensures c.in-Next.is))

pub returns-in_err-within-in-Fixpoint : goal.returns-in_err-within-in-Fixpoint
returns-in_err-within-in-Fixpoint t c =
    rw c.from_residual-in_err-within-in-Fixpoint.ensures (at_fixpoint _ c.in_err-within-in-Fixpoint.ensures (stands c.token_at-token.ensures c.size.ensures c.in-Fixpoint.is))

pub returns-in_ok-within-in-Fixpoint : goal.returns-in_ok-within-in-Fixpoint
returns-in_ok-within-in-Fixpoint t c =
    rw c.fixpoint_of-facts.ensures (at_fixpoint _ c.in_ok-within-in-Fixpoint.ensures (stands c.token_at-token.ensures c.size.ensures c.in-Fixpoint.is))

pub returns-then-depth-ge3 : goal.returns-then-depth-ge3
returns-then-depth-ge3 t c = at_fourth _ c.if-depth-ge3.true (stands c.token_at-token.ensures c.size.ensures c.in-Fixpoint.is)

pub returns-in-End : goal.returns-in-End
returns-in-End t c =
    ⊎_elim (λ e. at_end (stands c.token_at-token.ensures c.size.ensures e)) (λ e. at_broken (stands c.token_at-token.ensures c.size.ensures e)) c.in-End.is
