-- `judge::Standing::is_compatible` meets its contract: what is left of the path from that hop on tells the answer.
-- Assumes nothing.
use Rattle.judge.specs.StandingLaws.{compatible_hit, compatible_next, compatible_end}
use Rattle.judge.proofs.Standing.is_compatible.Goals as goal

pub returns-then-is_settled : goal.returns-then-is_settled
returns-then-is_settled c =
    compatible_hit _ _ _ _ _ c.loop-hop.invariant c.loop-hop-test.true c.is_settled.ensures c.if-is_settled.true
    c.agrees.ensures

pub loop-hop-preserved : goal.loop-hop-preserved
loop-hop-preserved c =
    compatible_next _ _ _ _ _ c.loop-hop.invariant c.loop-hop-test.true c.is_settled.ensures c.if-is_settled.false

pub returns : goal.returns
returns c = compatible_end _ _ _ _ _ c.loop-hop.invariant c.loop-hop-test.false
