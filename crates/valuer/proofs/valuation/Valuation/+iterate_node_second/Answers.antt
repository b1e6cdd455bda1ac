-- The cycle of `iterate`, `second` and `node`: each return is a law of Arms or Rounds.
use Rattle.std.proofs.Common.{rules, ⊎_elim, ◌≡◌, refl, sym, ap, ◌∙◌, arith, ◌<◌, ℕ, ◌+◌, ◌-◌, ◌*◌, length, replicate, List}
use Rattle.formula_tokens.specs.declared.Token.{Token}
use Rattle.formula_tokens.specs.Tokens.{token_size}
use Rattle.formula_tokens.specs.Sizes.{end_most, Stands, stands, stands-within}
use Rattle.valuer.proofs.Arms.{here-literal, here_first, here_second, here-inner, here-body, bottom_arm, top-arm, literal-arm, variable_arm, two_arm, next_arm, fixpoint_arm, no_arm}
use Rattle.valuer.proofs.Rounds.{turned_none, turned_more, turned_all, turned_still}
use Rattle.valuer.proofs.valuation.Valuation.+iterate_node_second.Goals as goal

-- a token of one byte, within the part, so that a call at the next place has fewer bytes left
fewer : {f : List ℕ} {at end t : ℕ} {u : Token} → Stands f at u end → token_size u ≡ 1 → (length f - at) * 2 ≡ t → (length f - end) * 2 + 1 < t
fewer w l m = omega (arith, w.ends, (stands-within w (omega arith)).0)

-- a map that is filled
everywhere : {n x : ℕ} {xs : List ℕ} → xs ≡ replicate n x → n ≡ 64 → xs ≡ replicate 64 x
everywhere {x = x} e z = e ∙ ap (λ (n : ℕ). replicate n x) z

-- ---- iterate

pub iterate-loop-init : goal.iterate-loop-init
iterate-loop-init t c = turned_none (omega arith)

pub iterate-node-next-requires : goal.iterate-node-next-requires
iterate-node-next-requires t c = (omega (arith, c.decreases), c.requires)

pub iterate-returns-then-same : goal.iterate-returns-then-same
iterate-returns-then-same t c =
    turned_still c.loop.invariant (rw (c.under.ensures.0, c.under.ensures.1, c.under.ensures.2) at c.node-next.ensures) c.args.self.now.over.coded (omega (arith, c.round_limit-end.ensures))
    c.states-n.result (omega (arith, c.states-n.ensures)) (sym c.same.ensures ∙ c.if-same.true)

pub iterate-loop-preserved : goal.iterate-loop-preserved
iterate-loop-preserved t c = turned_more c.loop.invariant (rw (c.under.ensures.0, c.under.ensures.1, c.under.ensures.2) at c.node-next.ensures) _ (omega arith)

pub iterate-returns : goal.iterate-returns
iterate-returns t c = turned_all c.loop.invariant (rw (c.under-2.ensures.0, c.under-2.ensures.1, c.under-2.ensures.2) at c.node-next-2.ensures) (omega (arith, c.round_limit-end.ensures))

-- ---- second

pub second-node-next-requires : goal.second-node-next-requires
second-node-next-requires t c = (omega (arith, c.decreases), c.requires)

-- ---- node

pub node-overflow_add-here : goal.node-overflow_add-here
node-overflow_add-here t c =
    let e = c.size.ensures ∙ ap token_size c.token_at-token.ensures in
    omega (arith, e, end_most c.args.self.now.formula.now c.args.at)

pub node-literals-requires : goal.node-literals-requires
node-literals-requires t c = (here-literal _ _ (stands c.token_at-token.ensures c.size.ensures c.in-Literal.is) c.requires, search rules)

pub node-node-after-requires : goal.node-node-after-requires
unfolding token_size
node-node-after-requires t c =
    let s = stands c.token_at-token.ensures c.size.ensures c.in-Two.is in
    (omega (arith, fewer s refl c.decreases), (here_first _ s c.requires))

pub node-second-requires : goal.node-second-requires
unfolding token_size
node-second-requires t c =
    let s = stands c.token_at-token.ensures c.size.ensures c.in-Two.is in
    let k = here_second c.node-after.ensures _ s c.requires in
    (omega (arith, fewer s refl c.decreases, k.further), (k.stands))

pub node-node-next-requires : goal.node-node-next-requires
unfolding token_size
node-node-next-requires t c =
    let s = stands c.token_at-token.ensures c.size.ensures c.in-Next.is in
    (omega (arith, fewer s refl c.decreases), (here-inner _ s c.requires))

pub node-iterate-requires : goal.node-iterate-requires
unfolding token_size
node-iterate-requires t c =
    let s = stands c.token_at-token.ensures c.size.ensures c.in-Fixpoint.is in
    (fewer s refl c.decreases, (here-body _ s c.requires))

pub node-returns-in-Bottom : goal.node-returns-in-Bottom
node-returns-in-Bottom t c =
    rw (everywhere (c.fill.ensures.after (λ y e. e)) c.told-out) (bottom_arm c.args.self.now.over (stands c.token_at-token.ensures c.size.ensures c.in-Bottom.is) c.start_of.ensures)

pub node-returns-in-Top : goal.node-returns-in-Top
node-returns-in-Top t c =
    rw (everywhere (c.fill-in-Top.ensures.after (λ y e. e)) c.told-out) (top-arm c.args.self.now.over (stands c.token_at-token.ensures c.size.ensures c.in-Top.is) c.start_of-in-Top.ensures)

pub node-returns-in-Literal : goal.node-returns-in-Literal
node-returns-in-Literal t c =
    let s = stands c.token_at-token.ensures c.size.ensures c.in-Literal.is in
    literal-arm c.args.self.now.over _ _ s (here-literal _ _ s c.requires) c.literals.ensures

pub node-returns-in-Variable : goal.node-returns-in-Variable
node-returns-in-Variable t c =
    variable_arm c.args.self.now.over _ (stands c.token_at-token.ensures c.size.ensures c.in-Variable.is) (c.copy_from_slice.ensures.after ∙ c.of.ensures)

pub node-returns-in-Two : goal.node-returns-in-Two
node-returns-in-Two t c =
    two_arm c.args.self.now.over _ (stands c.token_at-token.ensures c.size.ensures c.in-Two.is) c.node-after.ensures c.second.ensures

pub node-returns-in-Next : goal.node-returns-in-Next
node-returns-in-Next t c =
    next_arm c.args.self.now.over _ (stands c.token_at-token.ensures c.size.ensures c.in-Next.is) c.node-next.ensures c.next_values.ensures

pub node-returns-in-Fixpoint : goal.node-returns-in-Fixpoint
node-returns-in-Fixpoint t c =
    fixpoint_arm c.args.self.now.over _ (stands c.token_at-token.ensures c.size.ensures c.in-Fixpoint.is) c.start_of-start.ensures c.iterate.ensures

pub node-returns-in-End : goal.node-returns-in-End
unfolding token_size
node-returns-in-End t c =
    ⊎_elim (λ e. no_arm (stands c.token_at-token.ensures c.size.ensures e) refl) (λ e. no_arm (stands c.token_at-token.ensures c.size.ensures e) refl) c.in-End.is
