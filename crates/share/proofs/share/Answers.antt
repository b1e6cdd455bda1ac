-- `share::share` meets its contract: the count, as a per cent.
use Rattle.std.proofs.Common.{◌∙◌, length}
use Rattle.share.specs.ShareIn.{share_counted}
use Rattle.share.proofs.share.Goals as goal

pub returns : goal.returns
returns c = c.per_cent.ensures ∙ share_counted c.args.w.now.words c.args.e.0 c.args.s.now (length c.args.s.now) _ c.count.ensures
