-- `published::rows::bleedin_edge_rows` meets its contract: its bytes are those of the definitions.
-- Assumes nothing.
use mathlib.Core.Path.{refl}
use Rattle.theorems.specs.Published.{pairs_of_rows, table4_begin, table4_moment, table4_end, table4, edge_two_first, bleedin_round}
use Rattle.published.proofs.rows.bleedin_edge_rows.Goals as goal

pub returns : goal.returns
unfolding pairs_of_rows table4_begin table4_moment table4_end table4 edge_two_first bleedin_round
returns c = refl
