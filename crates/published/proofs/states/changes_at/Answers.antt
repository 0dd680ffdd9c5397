-- `published::states::changes_at` meets its contract: what the step leaves is compared with what was there.
-- Assumes nothing.
use Rattle.std.proofs.Common.{◌∙◌}
use Rattle.std.proofs.Math.Path.{ap}
use Rattle.std.proofs.Math.Bool.{not}
use Rattle.slices.proofs.PartLaws.{pointwise_same}
use Rattle.published.specs.StateLaws.{change_told}
use Rattle.published.proofs.states.changes_at.Goals as goal

pub returns : goal.returns
returns c = c.ne.ensures ∙ ap not (pointwise_same _ _) ∙ change_told _ _ _ _ c.step.ensures.heard
