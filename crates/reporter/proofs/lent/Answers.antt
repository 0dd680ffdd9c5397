-- `reporter::lent` meets its contract: a buffer of another length is refused.
-- Assumes nothing.
use Rattle.std.proofs.Common.{ap, sym, ◌∙◌}
use Rattle.std.proofs.Math.Option.{some}
use Rattle.answer.specs.Refused.{told}
use Rattle.answer.specs.declared.Refusal.{Refusal}
use Rattle.reporter.specs.Reported.{other_rows, other_ring, lent_well}
use Rattle.reporter.proofs.lent.Goals as goal
use Rattle.reporter.proofs.lent.Goals.{then-rows-ne-ROWS-via-then-rows-ne-ROWS, then-rows-ne-ROWS-via-else-rows-ne-ROWS+then-ring-ne-RING}

pub returns-then-rows-ne-ROWS : goal.returns-then-rows-ne-ROWS
returns-then-rows-ne-ROWS c =
    ap (λ (r : Refusal). some (told r)) c.at.ensures
    ∙ sym (elim c.then-rows-ne-ROWS.branch [
      | then-rows-ne-ROWS-via-then-rows-ne-ROWS w ↦ other_rows _ _ w.if-rows-ne-ROWS.true
      | then-rows-ne-ROWS-via-else-rows-ne-ROWS+then-ring-ne-RING w ↦ other_ring _ _ w.if-ring-ne-RING.true
    ])

pub returns : goal.returns
returns c = sym (lent_well _ _ c.if-rows-ne-ROWS.false c.if-ring-ne-RING.false)
