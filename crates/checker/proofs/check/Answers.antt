-- `checker::check` meets its contract: a refusal is told as an answer.
-- Assumes nothing.
use Rattle.checker.specs.Checked.{checked_refused}
use Rattle.checker.proofs.check.Goals as goal

pub returns-in-Err : goal.returns-in-Err
returns-in-Err c =
    let kept = c.in-Err.ensures.refused in
    rw (kept.rows, kept.ring) (checked_refused _ _ kept.refusal c.refused.ensures)
