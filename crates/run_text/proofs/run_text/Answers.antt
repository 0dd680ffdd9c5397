-- `run_text::run_text` meets its contract: the run from zeros.
-- Assumes nothing.
use Rattle.rules.specs.RunText.{ran_text}
use Rattle.run_text.proofs.run_text.Goals as goal

pub returns : goal.returns
unfolding ran_text
returns c = c.run_from.ensures.lines
