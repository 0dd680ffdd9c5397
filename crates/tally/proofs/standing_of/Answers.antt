-- `tally::standing_of` meets its contract.
-- Assumes nothing.
use Rattle.std.proofs.Common.{◌∙◌}
use Rattle.tally.specs.CountingLaws.{standing_zero, standing_more}
use Rattle.tally.proofs.standing_of.Goals as goal

pub returns-then-rank-eq0 : goal.returns-then-rank-eq0
returns-then-rank-eq0 c = standing_zero _ c.if-rank-eq0.true

pub returns : goal.returns
returns c = c.saturating_sub.ensures ∙ standing_more _ c.if-rank-eq0.false
