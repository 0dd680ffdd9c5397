-- `pairs::next_hops` meets its contract: the slots are those of the table.
-- Assumes nothing.
use Rattle.pairs.specs.SlotPathLaws.{rows_slotted}
use Rattle.pairs.proofs.next_hops.Goals as goal

pub returns : goal.returns
returns c = rows_slotted _ _ _ c.slots_of-slots.ensures c.next_rows.ensures
