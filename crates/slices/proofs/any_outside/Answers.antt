-- `slices::any_outside` meets its contract: what is left from b on tells the answer.
-- Assumes nothing.
use Rattle.std.proofs.Common.{sym, ◌∙◌}
use Rattle.lists.specs.ListLaws.{scan_hit, scan_next, scan_end}
use Rattle.slices.proofs.any_outside.Goals as goal

pub returns-then-is_outside : goal.returns-then-is_outside
returns-then-is_outside c =
    scan_hit _ _ 0 c.loop-b.b-index c.loop-b.invariant c.loop-b-test.true
    (sym c.is_outside.ensures ∙ c.if-is_outside.true)

pub loop-b-preserved : goal.loop-b-preserved
loop-b-preserved c =
    scan_next _ _ 0 c.loop-b.b-index c.loop-b.invariant c.loop-b-test.true
    (sym c.is_outside.ensures ∙ c.if-is_outside.false)

pub returns : goal.returns
returns c = scan_end _ _ 0 c.loop-b.b-index c.loop-b.invariant c.loop-b-test.false
