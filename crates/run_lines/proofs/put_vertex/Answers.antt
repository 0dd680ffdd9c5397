-- `run_lines::put_vertex` meets its contract: five pieces behind each other.
-- Assumes nothing.
use mathlib.Core.Path.{ap}
use mir.Facts.{to_z-of_z}
use Rattle.rules.specs.Text.{codes}
use Rattle.rules.specs.RunText.{signed, vertex_line}
use Rattle.text_writing.specs.WritesLaws.{writes_then, writes_as}
use Rattle.run_lines.proofs.put_vertex.Goals as goal

pub returns : goal.returns
unfolding codes vertex_line
returns c =
    let said = writes_as c.signed.ensures (ap signed (to_z-of_z c.ranges.sum)) in
    let summed = writes_then (writes_then c.number.ensures c.put.ensures) said in
    writes_then (writes_then summed c.route.ensures) c.put-2.ensures
