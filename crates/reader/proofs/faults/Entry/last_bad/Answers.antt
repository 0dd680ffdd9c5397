-- `reader::faults::Entry::last_bad` meets its contract: it is the byte behind the hops.
-- Assumes nothing.
use mathlib.Core.Path.{◌∙◌}
use Rattle.laws.specs.TableLaws.{last_seen}
use Rattle.reader.proofs.faults.Entry.last_bad.Goals as goal

pub returns : goal.returns
returns c =
    last_seen c.record_at.ensures (c.from-last.ensures ∙ c.hops_at.ensures)
    c.value_or.ensures c.is_outside.ensures
