-- `choice::is_heard` meets its contract.
-- Assumes nothing.
use Rattle.rests.specs.HeardRestLaws.{hears_some}
use Rattle.choice.proofs.is_heard.Goals as goal

pub returns-then-asked-ne0 : goal.returns-then-asked-ne0
returns-then-asked-ne0 c = hears_some _ _ _ c.if-asked-ne0.true c.value_or.ensures
