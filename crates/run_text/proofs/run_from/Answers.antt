-- `run_text::run_from` meets its contract: what the run's answer prints is the text of the run.
-- Assumes nothing.
use Rattle.text_writing.specs.LayLaws.{laid_as}
use Rattle.run_text.specs.PrintedRunLaws.{printed_run}
use Rattle.run_text.proofs.run_from.Goals as goal

pub returns : goal.returns
returns c =
    let ran = c.run-answer.ensures in
    record {
      lines = laid_as c.print_run.ensures (printed_run ran c.choices-chosen.ensures);
      state = ran.heard;
    }
