use Rattle.std.proofs.Common.{take}
use Rattle.rules.specs.Text.{spaced}
use Rattle.text_writing.specs.Writes.{Writes}
use Rattle.text_writing.proofs.Writer.spaced.Given as goal

abbrev pub invariant-loop-vertex : goal.invariant-loop-vertex
invariant-loop-vertex l = Writes (spaced (take l.vertex-index l.vertices)) l.initial.self l.self
