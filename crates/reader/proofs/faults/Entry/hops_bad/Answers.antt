-- `reader::faults::Entry::hops_bad` meets its contract: the test is that of the hops.
-- Assumes nothing.
use mathlib.Core.Path.{◌∙◌, ap}
use Rattle.lists.specs.Search.{outside}
use Rattle.rules.specs.Refusals.{hops_bad}
use Rattle.reader.proofs.faults.Entry.hops_bad.Goals as goal

pub returns : goal.returns
unfolding hops_bad
returns c = c.is_outside.ensures ∙ ap (outside 1 12) c.hops_at.ensures
