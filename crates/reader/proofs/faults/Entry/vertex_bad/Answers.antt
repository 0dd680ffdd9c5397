-- `reader::faults::Entry::vertex_bad` meets its contract: the test is that of the path.
-- Assumes nothing.
use mathlib.Core.Path.{◌∙◌, ap}
use Rattle.lists.specs.Search.{any_in, outside}
use Rattle.rules.specs.Refusals.{vertex_bad}
use Rattle.reader.proofs.faults.Entry.vertex_bad.Goals as goal

pub returns : goal.returns
unfolding vertex_bad
returns c = c.any_outside.ensures ∙ ap (any_in (outside 0 63)) c.path_at.ensures
