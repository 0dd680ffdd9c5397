-- `text_writing::Writer::refused` meets its contract: three pieces behind each other.
-- Assumes nothing.
use Rattle.rules.specs.Text.{codes, labelled, refused_line}
use Rattle.text_writing.specs.WritesLaws.{writes_then}
use Rattle.text_writing.proofs.Writer.refused.Goals as goal

pub returns : goal.returns
unfolding codes labelled refused_line
returns c = writes_then (writes_then c.labelled.ensures c.place.ensures) c.put.ensures
