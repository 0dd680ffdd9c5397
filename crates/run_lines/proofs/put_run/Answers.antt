-- `run_lines::put_run` meets its contract: the lines of each answer behind each other.
-- Assumes nothing.
use Rattle.text_writing.specs.WritesLaws.{writes_then, writes_as}
use Rattle.run_lines.specs.RunVerdictTextLaws.{accepted_text, refused_text}
use Rattle.run_lines.proofs.put_run.Goals as goal

pub returns-in-Ok : goal.returns-in-Ok
returns-in-Ok c =
    writes_as (writes_then c.put_numbers.ensures c.put_vertices.ensures) (accepted_text _ _ _ c.in-Ok.is)

pub returns-in-Err : goal.returns-in-Err
returns-in-Err c = writes_as c.refused.ensures (refused_text _ _ _ c.in-Err.is)
