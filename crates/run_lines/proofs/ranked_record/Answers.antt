-- `run_lines::ranked_record` meets its contract: rank 0 has none, another its slot.
-- Assumes nothing.
use Rattle.std.proofs.Common.{◌∙◌, arith}
use Rattle.run_lines.specs.ShownLaws.{ranked_none, ranked_some}
use Rattle.run_lines.proofs.ranked_record.Goals as goal

pub returns-in-0 : goal.returns-in-0
returns-in-0 c = ranked_none _ _ c.in-0.is

pub returns-in_default : goal.returns-in_default
returns-in_default c = c.value_or.ensures ∙ ranked_some _ _ (λ e. omega arith)
