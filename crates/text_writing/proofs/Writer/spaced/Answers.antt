-- `text_writing::Writer::spaced` meets its contract: the vertices so far are laid.
-- Assumes nothing.
use Rattle.rules.specs.Text.{codes, labelled}
use Rattle.laws.specs.TextLaws.{spaced_more, spaced_none}
use Rattle.text_writing.specs.WritesLaws.{writes_then, writes_nothing, writes_as}
use Rattle.text_writing.proofs.Writer.spaced.Goals as goal

pub loop-vertex-init : goal.loop-vertex-init
loop-vertex-init c = writes_as (writes_nothing _) spaced_none

pub loop-vertex-preserved : goal.loop-vertex-preserved
unfolding codes labelled
loop-vertex-preserved c =
    writes_as (writes_then c.loop-vertex.invariant c.labelled.ensures)
    (spaced_more _ c.loop-vertex.vertex-index c.loop-vertex-test.true)
