-- `rests::rest_of` meets its contract: the part from 1 on, and of no vertices none.
-- Assumes nothing.
use Rattle.std.proofs.Common.{sym, arith}
use Rattle.std.proofs.Math.ListN.{drop_of_length-le}
use Rattle.lists.specs.Parts.{part_to_end}
use Rattle.rules.specs.Table.{rest}
use Rattle.rests.proofs.rest_of.Goals as goal

pub returns-in-empty : goal.returns-in-empty
unfolding rest
returns-in-empty c = sym (drop_of_length-le c.args.path.now {i = 1} (omega arith))

pub returns-in-len1-up : goal.returns-in-len1-up
unfolding rest
returns-in-len1-up c = part_to_end c.args.path.now 1
