-- `rests::asked_row` meets its contract: the slots before k have their bytes.
-- Assumes nothing.
use Rattle.std.proofs.Common.{ap, ◌∙◌, arith}
use Rattle.rules.specs.Table.{path_at}
use Rattle.pairs.specs.SlotPaths.{held_in}
use Rattle.pairs.specs.SlotPathLaws.{filled_none, filled_to_stop, filled_to_end, filled_to_more}
use Rattle.rests.specs.Rests.{asked_for, asked_row}
use Rattle.rests.proofs.asked_row.Goals as goal

pub loop-k-init : goal.loop-k-init
loop-k-init c = filled_none (omega arith)

pub loop-k-preserved : goal.loop-k-preserved
loop-k-preserved c =
    filled_to_more c.loop-k.invariant _ (omega arith) c.if-i.false
    (c.asked_byte.ensures ∙ ap (asked_for (held_in _ _)) (c.path_at.ensures ∙ ap (path_at _) c.from.ensures))

pub returns-after-loop-k : goal.returns-after-loop-k
unfolding asked_row
returns-after-loop-k c = filled_to_end c.loop-k.invariant (omega arith)

pub returns-then-i : goal.returns-then-i
unfolding asked_row
returns-then-i c = filled_to_stop c.loop-k.invariant (omega arith) c.if-i.true
