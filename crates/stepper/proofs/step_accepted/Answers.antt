-- `stepper::step_accepted` meets its contract: each way through it has its refusal, or the step.
-- Assumes nothing.
use Rattle.pairs.specs.SlotPathLaws.{rows_slotted}
use Rattle.admission.specs.JudgedLaws.{surveyed, survey_rows}
use Rattle.stepper.specs.StepLaws.{way_heard, way_pair, way_worked, way_moved}
use Rattle.stepper.proofs.step_accepted.Goals as goal

pub returns-in-Some : goal.returns-in-Some
returns-in-Some c =
    let leads = rows_slotted _ _ _ c.slots_of-slots.ensures c.next_rows-nexts.ensures in
    let y = surveyed c.args.table.accepted c.requires leads c.bad_offset.ensures in
    rw c.at.ensures (way_heard y _ _ c.in-Some.is)

pub returns-then-not-is_listening : goal.returns-then-not-is_listening
returns-then-not-is_listening c =
    let leads = rows_slotted _ _ _ c.slots_of-slots.ensures c.next_rows-nexts.ensures in
    let y = surveyed c.args.table.accepted c.requires leads c.bad_offset.ensures in
    rw c.at-then-not-is_listening.ensures (way_pair y c.in_default.is _ _ c.is_listening.ensures c.if-not-is_listening.true)

pub work_pair-requires : goal.work_pair-requires
work_pair-requires c =
    let leads = rows_slotted _ _ _ c.slots_of-slots.ensures c.next_rows-nexts.ensures in
    let y = surveyed c.args.table.accepted c.requires leads c.bad_offset.ensures in
    (way_worked y c.in_default.is _ _ c.is_listening.ensures c.if-not-is_listening.false, c.slots_of-slots.ensures, survey_rows y)

pub returns : goal.returns
returns c =
    let leads = rows_slotted _ _ _ c.slots_of-slots.ensures c.next_rows-nexts.ensures in
    let y = surveyed c.args.table.accepted c.requires leads c.bad_offset.ensures in
    let e = c.work_pair.ensures in
    way_moved y c.in_default.is _ _ c.is_listening.ensures c.if-not-is_listening.false _ _ e.movement e.heard
