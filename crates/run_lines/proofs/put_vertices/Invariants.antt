use Rattle.std.proofs.Common.{◌-◌}
use Rattle.text_writing.specs.Writes.{Writes}
use Rattle.run_lines.specs.Shown.{shown_lines}
use Rattle.run_lines.proofs.put_vertices.Given as goal

abbrev pub invariant-loop-v : goal.invariant-loop-v
invariant-loop-v l = Writes (shown_lines l.table l.choices l.sums (l.v - 1)) l.initial.writer l.writer
