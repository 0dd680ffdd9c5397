-- `ring::lowest_place` meets its contract: the least vertex is the lowest, and where there is none it has no place.
-- Assumes nothing.
use Rattle.std.proofs.Common.{sym, ◌∙◌}
use Rattle.ring.specs.WalkLaws.{lowest_least, lowest_missing}
use Rattle.ring.proofs.lowest_place.Goals as goal

pub returns-in_err-low : goal.returns-in_err-low
returns-in_err-low c = c.from_residual.ensures ∙ sym (lowest_missing _ c.in_err-low.ensures)

pub returns : goal.returns
returns c = rw (lowest_least c.args.part.now _ c.in_ok-low.ensures) c.place_of.ensures
