-- `report_rows::write_rows` meets its contract, by the room that there is, and the marks and records.
-- Assumes nothing.
use Rattle.std.proofs.Common.{sym, ◌∙◌}
use Rattle.report_rows.specs.ShownRowLaws.{rows_whole, rows_other, rows_marks, rows_records}
use Rattle.report_rows.proofs.write_rows.Goals as goal

pub returns-then-rows-ne-ROWS : goal.returns-then-rows-ne-ROWS
returns-then-rows-ne-ROWS c = sym (rows_other _ _ _ _ c.if-rows-ne-ROWS.true)

pub returns-in_default : goal.returns-in_default
returns-in_default c = sym (rows_marks _ _ _ _ c.if-rows-ne-ROWS.false c.in_default.ensures.cases)

pub returns-in_default-as_array : goal.returns-in_default-as_array
returns-in_default-as_array c =
    sym (rows_records _ _ _ _ c.if-rows-ne-ROWS.false c.in-Some.ensures.cases.long c.in_default-as_array.ensures.cases)

pub returns : goal.returns
returns c =
    let marks = c.in-Some.ensures.cases in
    let shown = c.in-Some-as_array.ensures.cases in
    rw (marks.same, shown.same) at c.fill_rows.ensures
    ∙ sym (rows_whole _ _ _ _ c.if-rows-ne-ROWS.false marks.long shown.long)
