-- `run_admission::schedule::number_of` meets its contract: each way through it has its number.
-- Assumes nothing.
use native.Mathlib.Omega.{arith}
use Rattle.pairs.specs.NextHopLaws.{slot_small}
use Rattle.run_admission.specs.ScheduleWalkLaws.{number_past, number_other, number_none, number_some}
use Rattle.run_admission.proofs.schedule.number_of.Goals as goal

pub returns-then-row-ge-VERTICES : goal.returns-then-row-ge-VERTICES
returns-then-row-ge-VERTICES c = number_past _ _ _ c.if-row-ge-VERTICES.true

pub returns-then-u-ge-VERTICES : goal.returns-then-u-ge-VERTICES
returns-then-u-ge-VERTICES c = number_other _ _ _ c.if-row-ge-VERTICES.false c.if-u-ge-VERTICES.true

pub returns-then-slot-eq-SLOTS : goal.returns-then-slot-eq-SLOTS
returns-then-slot-eq-SLOTS c =
    number_none _ _ _ c.if-row-ge-VERTICES.false c.if-u-ge-VERTICES.false _ c.steady_slot_to-slot.ensures c.if-slot-eq-SLOTS.true

pub overflow_add-result : goal.overflow_add-result
overflow_add-result c = omega (arith, slot_small _ _ _ c.steady_slot_to-slot.ensures)

pub returns : goal.returns
returns c =
    number_some _ _ _ c.if-row-ge-VERTICES.false c.if-u-ge-VERTICES.false _ c.steady_slot_to-slot.ensures c.if-slot-eq-SLOTS.false
    (slot_small _ _ _ c.steady_slot_to-slot.ensures)
