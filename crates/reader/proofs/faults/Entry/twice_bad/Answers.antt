-- `reader::faults::Entry::twice_bad` meets its contract: the test is that of the path.
-- Assumes nothing.
use mathlib.Core.Path.{◌∙◌, ap}
use Rattle.lists.specs.Search.{twice}
use Rattle.rules.specs.Refusals.{twice_bad}
use Rattle.reader.proofs.faults.Entry.twice_bad.Goals as goal

pub returns : goal.returns
unfolding twice_bad
returns c = c.has_twice.ensures ∙ ap twice c.path_at.ensures
