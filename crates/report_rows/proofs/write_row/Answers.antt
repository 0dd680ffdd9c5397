-- `report_rows::write_row` meets its contract: three bytes, then the vertices.
-- Assumes nothing.
use Rattle.report_rows.specs.ShownRowLaws.{row_written_lem}
use Rattle.report_rows.proofs.write_row.Goals as goal

pub returns : goal.returns
returns c =
    row_written_lem _ _ _ _ _ c.args.part.now c.hops_of.ensures c.requires.0 c.fill_padded.ensures
