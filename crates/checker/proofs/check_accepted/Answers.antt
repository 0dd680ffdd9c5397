-- `checker::check_accepted` meets its contract: where the stages have ended, what marks and records show is the report.
-- Assumes nothing.
use Rattle.checker.specs.Checked.{checked_accepted}
use Rattle.checker.proofs.check_accepted.Goals as goal

pub returns : goal.returns
returns c = checked_accepted c.args.table.accepted c.settle-settling.ensures c.report.ensures
