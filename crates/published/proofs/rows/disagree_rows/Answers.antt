-- `published::rows::disagree_rows` meets its contract: its bytes are those of the definitions.
-- Assumes nothing.
use mathlib.Core.Path.{refl}
use Rattle.theorems.specs.Published.{pairs_of_rows, disagree_one_first, disagree_two_first}
use Rattle.published.proofs.rows.disagree_rows.Goals as goal

pub returns : goal.returns
unfolding pairs_of_rows disagree_one_first disagree_two_first
returns c = refl
