-- `rounds::replace` meets its contract: the words below i are replaced, and folded.
use Rattle.std.proofs.Common.{ℕ, refl, ap, sym, ◌∙◌, arith}
use Rattle.theory.specs.Loop.{fold}
use Rattle.entries.specs.Words.{replaced_none, replaced_more}
use Rattle.rounds.specs.Early.{fold_set}
use Rattle.rounds.proofs.columns.replace.Goals as goal

pub loop-i-init : goal.loop-i-init
unfolding fold
loop-i-init g c = (λ h e. replaced_none, λ h e. refl)

pub loop-i-preserved : goal.loop-i-preserved
loop-i-preserved g c = (
  λ h e. replaced_more (c.loop-i.invariant.0 h e) (omega arith) (e _ _ _ c.f-y.ensures),
  λ h e. e _ _ _ c.g-all.ensures ∙ ap (λ (x : ℕ). h x c.f-y.result) (c.loop-i.invariant.1 h e) ∙ sym (fold_set h _ _ _ _ (omega arith)),
)
