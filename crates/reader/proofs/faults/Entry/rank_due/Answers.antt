-- `reader::faults::Entry::rank_due` meets its contract: the two tests are those of the definition.
-- Assumes nothing.
use mathlib.Core.Path.{◌∙◌}
use Rattle.rules.specs.Refusals.{rank_due}
use Rattle.laws.specs.TableLaws.{rank_due_new, rank_due_same}
use Rattle.reader.proofs.faults.Entry.rank_due.Goals as goal

pub returns-then-self-eq0 : goal.returns-then-self-eq0
unfolding rank_due
returns-then-self-eq0 c = rw c.if-self-eq0.true

pub returns-then-owner_at : goal.returns-then-owner_at
returns-then-owner_at c =
    rank_due_new _ _ c.if-self-eq0.false c.owner_at.ensures c.owner_at-2.ensures c.if-owner_at.true

pub returns : goal.returns
returns c =
    rank_due_same _ _ c.if-self-eq0.false c.owner_at.ensures c.owner_at-2.ensures
    c.if-owner_at.false (c.from.ensures ∙ c.rank_at.ensures)
