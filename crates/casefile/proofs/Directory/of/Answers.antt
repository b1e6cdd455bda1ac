-- `casefile::Directory::of` meets its contract: by its two tests.
use Rattle.std.proofs.Common.{sym, ◌∙◌}
use Rattle.casefile.proofs.Answered.{size-read, directory-read}
use Rattle.casefile.proofs.Directory.of.Goals as goal

pub returns-then-not-right_size : goal.returns-then-not-right_size
returns-then-not-right_size c = size-read _ (sym c.right_size.ensures ∙ c.if-not-right_size.true)

pub returns-then-not-right_directory : goal.returns-then-not-right_directory
returns-then-not-right_directory c = directory-read _ (sym c.right_size.ensures ∙ c.if-not-right_size.false) (sym c.right_directory.ensures ∙ c.if-not-right_directory.true)
