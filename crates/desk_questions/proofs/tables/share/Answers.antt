-- `desk_questions::share` meets its contract: by the range, then by the count in the whole table of a held desk.
use Rattle.std.proofs.Common.{◌∙◌, lt-ltb, le-ltb, length-take-le}
use Rattle.share.specs.ShareIn.{share_front}
use Rattle.desk_check.specs.Held.{few}
use Rattle.desk_questions.specs.Questions.{some_entries, whole_fits, held_share, share_outside}
use Rattle.desk_questions.proofs.tables.share.Goals as goal

pub returns-then-z-e : goal.returns-then-z-e
returns-then-z-e c = share_outside c.in_ok-z.ensures.held _ (le-ltb _ _ c.if-z-e.true)

pub share-requires : goal.share-requires
share-requires c =
    let held = c.in_ok-z.ensures.held in
    let n = c.table_size.ensures.0 in
    rw (length-take-le c.table_size.result c.whole_table.result.now (rw n (whole_fits held _ c.whole_table.ensures)), n) (some_entries held, few held)

pub returns : goal.returns
returns c =
    let held = c.in_ok-z.ensures.held in
    let n = c.table_size.ensures.0 in
    held_share held _ _ _ _ n (lt-ltb _ _ c.if-z-e.false) c.whole_table.ensures
    (c.share.ensures ∙ share_front c.examine.new.w.words c.args.e.0 _ c.table_size.result (rw n (whole_fits held _ c.whole_table.ensures)))
