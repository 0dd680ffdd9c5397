-- `check_lines::put_answer` meets its contract: the lines of each verdict behind each other.
-- Assumes nothing.
use Rattle.rules.specs.Text.{codes}
use Rattle.text_writing.specs.WritesLaws.{writes_then, writes_as}
use Rattle.check_lines.specs.VerdictTextLaws.{complete_text, stuck_text, refused_text}
use Rattle.check_lines.proofs.put_answer.Goals as goal

pub returns-in-Complete : goal.returns-in-Complete
unfolding codes
returns-in-Complete c =
    writes_as (writes_then c.put_verdict.ensures c.put_rows.ensures)
    (complete_text _ _ _ _ c.in-Complete.is)

pub returns-in-Stuck : goal.returns-in-Stuck
unfolding codes
returns-in-Stuck c =
    writes_as (writes_then (writes_then c.put_verdict-in-Stuck.ensures c.put_rows-in-Stuck.ensures) c.put_ring.ensures)
    (stuck_text _ _ _ _ _ c.in-Stuck.is)

pub returns-in-Refused : goal.returns-in-Refused
returns-in-Refused c = writes_as c.refused.ensures (refused_text _ _ _ _ _ _ c.in-Refused.is)
