-- `text_writing::Writer::route` meets its contract: rank 0 is no path.
-- Assumes nothing.
use Rattle.rules.specs.Text.{codes, labelled}
use Rattle.laws.specs.TextLaws.{route_none, route_some}
use Rattle.text_writing.specs.WritesLaws.{writes_then, writes_as}
use Rattle.text_writing.proofs.Writer.route.Goals as goal

pub returns-then-rank-eq0 : goal.returns-then-rank-eq0
unfolding codes
returns-then-rank-eq0 c = writes_as c.put.ensures (route_none _ _ c.if-rank-eq0.true)

pub returns-else-rank-eq0 : goal.returns-else-rank-eq0
unfolding codes labelled
returns-else-rank-eq0 c =
    writes_as (writes_then (writes_then c.labelled.ensures c.put-else-rank-eq0.ensures) c.spaced.ensures)
    (route_some _ _ c.if-rank-eq0.false)
