-- `admission::can_speak` meets its contract: the destination speaks of one path, every other vertex of those in its slots.
-- Assumes nothing.
use Rattle.admission.specs.JudgedLaws.{speaks_destination_in, speaks_past, speaks_slot}
use Rattle.admission.proofs.can_speak.Goals as goal

pub returns-then-u-eq0 : goal.returns-then-u-eq0
returns-then-u-eq0 c = speaks_destination_in _ _ _ c.if-u-eq0.true

pub returns-then-b-gt-SLOTS : goal.returns-then-b-gt-SLOTS
returns-then-b-gt-SLOTS c = speaks_past _ _ _ c.if-u-eq0.false c.if-b-gt-SLOTS.true

pub returns : goal.returns
returns c = speaks_slot _ _ _ c.if-u-eq0.false c.if-b-gt-SLOTS.false
