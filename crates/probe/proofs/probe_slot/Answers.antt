-- `probe::probe_slot` meets its contract: the slot is the reader's, and past the last vertex or the last slot there is none.
-- Assumes nothing.
use Rattle.std.proofs.Common.{refl, ◌∙◌}
use Rattle.probe.specs.ProbeLaws.{slot_in, slot_no_vertex, slot_no_rank}
use Rattle.probe.proofs.probe_slot.Goals as goal

pub returns-then-v-ge-VERTICES : goal.returns-then-v-ge-VERTICES
returns-then-v-ge-VERTICES c = c.from.ensures ∙ slot_no_vertex _ _ _ c.if-v-ge-VERTICES.true

pub returns-then-k-ge-SLOTS : goal.returns-then-k-ge-SLOTS
returns-then-k-ge-SLOTS c = c.from-then-k-ge-SLOTS.ensures ∙ slot_no_rank _ _ _ c.if-v-ge-VERTICES.false c.if-k-ge-SLOTS.true

pub returns : goal.returns
returns c = c.from-2.ensures ∙ c.value_or.ensures ∙ slot_in _ _ _ _ c.slots_of-slots.ensures _ refl
