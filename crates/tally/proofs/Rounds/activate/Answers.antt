-- `tally::Rounds::activate` meets its contract: what is left decides whether the round closes.
-- Assumes nothing.
use Rattle.tally.specs.StampLaws.{number_told, newly_told, closed_more, closed_same, missing_none, missing_some, activated_told}
use Rattle.tally.proofs.Rounds.activate.Goals as goal

pub returns-then-self-eq0-clause-counted : goal.returns-then-self-eq0-clause-counted
returns-then-self-eq0-clause-counted c =
    let number = number_told _ c.saturating_add-number.ensures in
    activated_told _ _ _ _ _ _ _ _ _ _ _ number (newly_told _ _ _ _ c.value_or.ensures c.from.ensures)
    c.saturating_sub-self.ensures c.put_at.ensures (closed_more _ _ _ c.if-self-eq0.true number) (missing_none _ _ c.if-self-eq0.true)

pub returns-else-self-eq0-clause-counted : goal.returns-else-self-eq0-clause-counted
returns-else-self-eq0-clause-counted c =
    let number = number_told _ c.saturating_add-number.ensures in
    activated_told _ _ _ _ _ _ _ _ _ _ _ number (newly_told _ _ _ _ c.value_or.ensures c.from.ensures)
    c.saturating_sub-self.ensures c.put_at.ensures (closed_same _ _ c.if-self-eq0.false) (missing_some _ _ c.if-self-eq0.false)
