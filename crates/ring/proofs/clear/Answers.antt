-- `ring::clear` meets its contract: nothing stands in front of the filler.
-- Assumes nothing.
use Rattle.std.proofs.Common.{sym, ◌∙◌}
use Rattle.ring.specs.WalkLaws.{padded_none}
use Rattle.ring.proofs.clear.Goals as goal

pub returns : goal.returns
returns c = c.fill.ensures.after (λ y e. e) ∙ sym (padded_none 255 _)
