-- `pairs::next_row` meets its contract: the slots before k have their next hops.
-- Assumes nothing.
use Rattle.std.proofs.Common.{arith}
use Rattle.pairs.specs.SlotPathLaws.{filled_none, filled_to_stop, filled_to_end, filled_to_more}
use Rattle.pairs.specs.NextHops.{next_row}
use Rattle.pairs.proofs.next_row.Goals as goal

pub loop-k-init : goal.loop-k-init
loop-k-init c = filled_none (omega arith)

pub returns-then-i : goal.returns-then-i
unfolding next_row
returns-then-i c = filled_to_stop c.loop-k.invariant (omega arith) c.if-i.true

pub loop-k-preserved : goal.loop-k-preserved
loop-k-preserved c = filled_to_more c.loop-k.invariant _ (omega arith) c.if-i.false c.next_at.ensures

pub returns : goal.returns
unfolding next_row
returns c = filled_to_end c.loop-k.invariant (omega arith)
