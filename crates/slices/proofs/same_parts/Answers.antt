-- `slices::same_parts` meets its contract: what `==` answers is `same`.
-- Assumes nothing.
use Rattle.std.proofs.Common.{◌∙◌}
use Rattle.slices.proofs.PartLaws.{pointwise_same}
use Rattle.slices.proofs.same_parts.Goals as goal

pub returns : goal.returns
returns c = c.eq.ensures ∙ pointwise_same _ _
