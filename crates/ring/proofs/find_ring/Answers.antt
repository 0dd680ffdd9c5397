-- `ring::find_ring` meets its contract: the closed part of the walk from the lowest marked vertex, turned.
-- Assumes nothing.
use Rattle.ring.proofs.WalkLaws.{writes_none, writes_ring}
use Rattle.ring.proofs.find_ring.Goals as goal

pub returns-in_default : goal.returns-in_default
returns-in_default c = writes_none _ _ _ c.in_default.ensures c.clear.ensures

pub returns : goal.returns
returns c = writes_ring _ _ _ c.in-Some.start c.in-Some.ensures c.walk-closed.ensures.part c.turn.ensures c.fill_front.ensures
