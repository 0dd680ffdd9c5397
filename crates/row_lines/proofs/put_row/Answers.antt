-- `row_lines::put_row` meets its contract: 254 is absent; otherwise four pieces behind each other.
-- Assumes nothing.
use Rattle.rules.specs.Text.{codes}
use Rattle.laws.specs.TextLaws.{row_absent, row_present}
use Rattle.text_writing.specs.WritesLaws.{writes_then, writes_nothing, writes_as}
use Rattle.row_lines.proofs.put_row.Goals as goal

pub returns-then-value_or-eq-ABSENT : goal.returns-then-value_or-eq-ABSENT
returns-then-value_or-eq-ABSENT c =
    writes_as (writes_nothing _) (row_absent _ _ _ c.value_or.ensures c.if-value_or-eq-ABSENT.true)

pub returns : goal.returns
unfolding codes
returns c =
    let routed = writes_then (writes_then c.number.ensures c.put_stage.ensures) c.route.ensures in
    writes_as (writes_then routed c.put.ensures)
    (row_present _ _ _ c.value_or.ensures c.if-value_or-eq-ABSENT.false c.value_or-2.ensures c.path_in.ensures)
