-- `published::states::row_three` meets its contract: its bytes are those of the definition.
-- Assumes nothing.
use mathlib.Core.Path.{refl}
use Rattle.theorems.specs.Published.{nothing_heard, direct_heard, row_three}
use Rattle.published.proofs.states.row_three.Goals as goal

pub returns : goal.returns
unfolding nothing_heard direct_heard row_three
returns c = refl
