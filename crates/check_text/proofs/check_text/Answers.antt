-- `check_text::check_text` meets its contract: what the check's answer prints is the table's text.
-- Assumes nothing.
use Rattle.text_writing.specs.LayLaws.{laid_as}
use Rattle.check_text.specs.PrintedLaws.{printed_check}
use Rattle.check_text.proofs.check_text.Goals as goal

pub returns : goal.returns
returns c = laid_as c.print.ensures (printed_check c.check-answer.ensures)
