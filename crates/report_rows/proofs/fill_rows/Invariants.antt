use Rattle.std.specs.Prelude.{◌≡◌, ◌*◌, take}
use Rattle.lists.specs.Fill.{blocks}
use Rattle.report_rows.specs.ShownRows.{shown_row}
use Rattle.report_rows.proofs.fill_rows.Given as goal

abbrev pub invariant-loop-v : goal.invariant-loop-v
invariant-loop-v l = take (l.v * 16) l.rows ≡ blocks (shown_row l.table l.marks l.shown) l.v
