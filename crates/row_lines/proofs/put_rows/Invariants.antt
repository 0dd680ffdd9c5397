use Rattle.std.proofs.Common.{◌-◌}
use Rattle.rules.specs.Text.{row_lines}
use Rattle.text_writing.specs.Writes.{Writes}
use Rattle.row_lines.proofs.put_rows.Given as goal

abbrev pub invariant-loop-v : goal.invariant-loop-v
invariant-loop-v l = Writes (row_lines l.rows (l.v - 1)) l.initial.writer l.writer
