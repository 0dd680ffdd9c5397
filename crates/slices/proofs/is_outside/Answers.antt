-- `slices::is_outside` meets its contract: the two tests are those of `outside`.
-- Assumes nothing.
use Rattle.std.proofs.Common.{sym, ◌∙◌}
use borrow.Author.Tests.{le-ltb, lt-ltb}
use Rattle.lists.specs.Search.{outside}
use Rattle.lists.specs.Tests.{below_out}
use Rattle.slices.proofs.is_outside.Goals as goal

pub returns-then-b-low : goal.returns-then-b-low
returns-then-b-low c = lt-ltb _ _ c.if-b-low.true ∙ sym (below_out _ _ _ c.if-b-low.true)

pub returns-else-b-low : goal.returns-else-b-low
unfolding outside
returns-else-b-low c = rw (le-ltb _ _ c.if-b-low.false)
