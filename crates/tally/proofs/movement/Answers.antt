-- `tally::movement` meets its contract: standings are small, so their difference fits.
-- Assumes nothing.
use Rattle.std.proofs.Common.{ap, ◌∙◌}
use mir.Val.{of_z}
use Rattle.std.specs.Int.{w32}
use Rattle.tally.specs.CountingLaws.{move_fits, move_told}
use Rattle.tally.proofs.movement.Goals as goal

pub overflow_sub-result : goal.overflow_sub-result
overflow_sub-result c = move_fits _ _ _ _ (ap (of_z w32) c.from.ensures ∙ c.standing_of.ensures) (ap (of_z w32) c.from-2.ensures ∙ c.standing_of-2.ensures)

pub returns : goal.returns
returns c = move_told _ _ _ _ (ap (of_z w32) c.from.ensures ∙ c.standing_of.ensures) (ap (of_z w32) c.from-2.ensures ∙ c.standing_of-2.ensures)
