-- `pairs::count_pairs` meets its contract: the pairs of the rows before this one are counted.
-- Assumes nothing.
use Rattle.std.proofs.Common.{arith}
use Rattle.pairs.specs.NextHopLaws.{row_few, pairs_none, pairs_more}
use Rattle.pairs.proofs.count_pairs.Goals as goal

pub loop-row-init : goal.loop-row-init
loop-row-init c = (omega arith, pairs_none _)

pub overflow_add-count : goal.overflow_add-count
overflow_add-count c = omega (arith, row_few _ _ c.count_row-count.ensures, c.loop-row.invariant.0)

pub loop-row-preserved : goal.loop-row-preserved
loop-row-preserved c =
    let i = c.loop-row.invariant in (
      omega (arith, row_few _ _ c.count_row-count.ensures, i.0),
      pairs_more _ _ _ (omega arith) i.1 _ c.count_row-count.ensures,
    )
