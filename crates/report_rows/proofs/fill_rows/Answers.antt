-- `report_rows::fill_rows` meets its contract: the rows below v stand.
-- Assumes nothing.
use Rattle.std.proofs.Common.{◌*◌, arith}
use Rattle.lists.specs.Parts.{part_length}
use Rattle.report_rows.specs.ShownRowLaws.{first_written, next_written, path_most, shown_record}
use Rattle.report_rows.proofs.fill_rows.Goals as goal

pub loop-v-init : goal.loop-v-init
loop-v-init c = (first_written _ _ _ c.args.rows.now c.requires _ c.write_row.ensures).1

pub write_row-requires-in-loop-v : goal.write_row-requires-in-loop-v
write_row-requires-in-loop-v c =
    let l = c.loop-v in
    (part_length l.rows (l.v * 16) 16 (omega arith), rw c.path_at.ensures (path_most _ _))

pub loop-v-preserved : goal.loop-v-preserved
loop-v-preserved c =
    let l = c.loop-v in
    (next_written _ _ _ l.rows (omega arith) _ l.v c.loop-v-test.true l.invariant
    (shown_record _ _ _ l.v (omega arith) (omega arith) (omega arith) c.loop-v-test.true _ _ _ _ c.from-i.ensures
    c.rank_at.ensures c.path_at.ensures c.write_row-in-loop-v.ensures)).1
