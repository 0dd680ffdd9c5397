-- `reporter::verdict_of` meets its contract: two cases.
-- Assumes nothing.
use Rattle.reporter.specs.Reported.{found_none, found_some}
use Rattle.reporter.proofs.verdict_of.Goals as goal

pub returns-then-count-eq0 : goal.returns-then-count-eq0
returns-then-count-eq0 c = found_none _ c.if-count-eq0.true

pub returns-else-count-eq0 : goal.returns-else-count-eq0
returns-else-count-eq0 c = found_some _ c.if-count-eq0.false
