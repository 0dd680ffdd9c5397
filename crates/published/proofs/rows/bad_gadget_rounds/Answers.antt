-- `published::rows::bad_gadget_rounds` meets its contract: its bytes are those of the definition.
-- Assumes nothing.
use mathlib.Core.Path.{refl}
use Rattle.theorems.specs.Published.{pairs_of_rows, bad_gadget_round, bad_gadget_rounds}
use Rattle.published.proofs.rows.bad_gadget_rounds.Goals as goal

pub returns : goal.returns
unfolding pairs_of_rows bad_gadget_round bad_gadget_rounds
returns c = refl
