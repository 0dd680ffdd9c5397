-- `slices::mark_all` meets its contract: what is left to mark from v on tells the marks.
-- Assumes nothing.
use Rattle.std.proofs.Common.{sym, ◌∙◌}
use Rattle.lists.specs.FillLaws.{marked_next, marked_end}
use Rattle.slices.proofs.mark_all.Goals as goal

pub loop-v-preserved : goal.loop-v-preserved
loop-v-preserved c =
    marked_next _ _ c.loop-v.v-index _ _ c.put_at.ensures c.loop-v-test.true c.loop-v.invariant

pub returns : goal.returns
returns c = sym (marked_end _ _ _ c.loop-v-test.false) ∙ c.loop-v.invariant
