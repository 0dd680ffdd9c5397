-- `stepper::work_pair` meets its contract: the bytes before and after give the movement.
-- Assumes nothing.
use Rattle.stepper.specs.StepLaws.{pair_worked}
use Rattle.stepper.proofs.work_pair.Goals as goal

pub returns : goal.returns
returns c =
    let p = c.requires in
    let h = c.hear-new.ensures in
    let worked = pair_worked p.0 _ p.2 _ p.1 _ _ c.asked_row.ensures c.asked_row-2.ensures
    _ _ _ _ c.choice_byte-old.ensures c.choice_byte-said.ensures h.stored h.chosen _ c.movement.ensures in
    record { movement = worked.0; heard = worked.1 }
