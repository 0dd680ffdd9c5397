-- `text_writing::Writer::labelled` meets its contract: the word, then the number behind it.
-- Assumes nothing.
use Rattle.text_writing.specs.WritesLaws.{writes_then}
use Rattle.text_writing.proofs.Writer.labelled.Goals as goal

pub returns : goal.returns
returns c = writes_then c.put.ensures c.number.ensures
