-- `published::rows::di_safe_gree_rows` meets its contract: its bytes are those of the definition.
-- Assumes nothing.
use mathlib.Core.Path.{refl}
use Rattle.theorems.specs.Published.{pairs_of_rows, di_safe_gree_rows}
use Rattle.published.proofs.rows.di_safe_gree_rows.Goals as goal

pub returns : goal.returns
unfolding pairs_of_rows di_safe_gree_rows
returns c = refl
