-- `reader::faults::Entry::owner_bad` meets its contract: the two tests are those of the definition.
-- Assumes nothing.
use Rattle.rules.specs.Refusals.{owner_bad}
use Rattle.laws.specs.TableLaws.{owner_bad_later}
use Rattle.reader.proofs.faults.Entry.owner_bad.Goals as goal

pub returns-then-self-eq0 : goal.returns-then-self-eq0
unfolding owner_bad
returns-then-self-eq0 c = rw c.if-self-eq0.true

pub returns : goal.returns
returns c = owner_bad_later _ _ c.if-self-eq0.false c.owner_at.ensures c.owner_at-2.ensures
