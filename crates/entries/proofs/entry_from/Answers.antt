-- `entries::entry_from` meets its contract: an entry whose propositions' meet is bottom.
use Rattle.std.proofs.Common.{ℕ, ap, sym, ◌∙◌, get_or}
use Rattle.entries.specs.Prepared.{entry_bottom}
use Rattle.entries.proofs.entry_from.Goals as goal

pub returns-then-r-from-eq0 : goal.returns-then-r-from-eq0
returns-then-r-from-eq0 c =
    let r = c.args.r.now in
    entry_bottom r.algebra.coded r.prepared c.args.q2.0 c.requires (ap (λ (i : ℕ). get_or r.alike.now i 0) (sym c.from.ensures) ∙ c.if-r-from-eq0.true)
