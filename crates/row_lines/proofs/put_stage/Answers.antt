-- `row_lines::put_stage` meets its contract: 255 is stuck, another byte a stage.
-- Assumes nothing.
use Rattle.rules.specs.Text.{codes, labelled}
use Rattle.laws.specs.TextLaws.{stage_stuck, stage_some}
use Rattle.text_writing.specs.WritesLaws.{writes_as}
use Rattle.row_lines.proofs.put_stage.Goals as goal

pub returns-then-stage : goal.returns-then-stage
unfolding codes
returns-then-stage c = writes_as c.put.ensures (stage_stuck _ _ c.value_or-stage.ensures c.if-stage.true)

pub returns-else-stage : goal.returns-else-stage
unfolding codes labelled
returns-else-stage c = writes_as c.labelled.ensures (stage_some _ _ c.value_or-stage.ensures c.if-stage.false)
