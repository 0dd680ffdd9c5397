-- `ring::walk` meets its contract: the walk goes on from v, with the first n of the buffer seen.
-- Assumes nothing.
use Rattle.std.proofs.Common.{ap, sym, ◌∙◌}
use Rattle.ring.specs.Ring.{next_in}
use Rattle.ring.specs.WalkLaws.{walk_starts, walk_closes, walk_goes, walk_ends}
use Rattle.ring.proofs.walk.Goals as goal

pub loop-n-init : goal.loop-n-init
loop-n-init c = walk_starts _ _ _

pub returns-in-Some-clause-part : goal.returns-in-Some-clause-part
returns-in-Some-clause-part c =
    walk_closes c.loop-n.invariant c.loop-n-test.true _ (sym c.place_of.ensures ∙ c.in-Some.is)

pub loop-n-preserved : goal.loop-n-preserved
loop-n-preserved c =
    walk_goes c.loop-n.invariant c.loop-n-test.true _ (sym c.place_of.ensures ∙ c.in_default.is)
    (c.value_or-v.ensures ∙ ap (next_in _) c.from.ensures)

pub returns-clause-part : goal.returns-clause-part
returns-clause-part c = walk_ends c.loop-n.invariant c.loop-n-test.false
