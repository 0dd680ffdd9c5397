-- `judge::Standing::best_record` meets its contract: what is left of the slots from i on tells the answer.
-- Assumes nothing.
use Rattle.std.proofs.Common.{true, false, arith}
use Rattle.judge.specs.Standing.{best_record}
use Rattle.judge.specs.StandingLaws.{records_end, records_hit, records_next, records_none, look_compatible, found_record, found_none}
use Rattle.judge.proofs.Standing.best_record.Goals as goal

pub returns-then-is_compatible : goal.returns-then-is_compatible
unfolding best_record
returns-then-is_compatible c =
    found_record _ _ _ _ _ c.if-i.false
    (records_hit _ _ _ c.loop-i.invariant (omega arith) c.if-i.false
    (look_compatible _ _ _ _ _ _ _ true c.from.ensures c.path_at.ensures c.is_compatible.ensures
    c.if-is_compatible.true))

pub loop-i-preserved : goal.loop-i-preserved
unfolding best_record
loop-i-preserved c =
    records_next _ _ _ c.loop-i.invariant (omega arith) c.if-i.false
    (look_compatible _ _ _ _ _ _ _ false c.from.ensures c.path_at.ensures c.is_compatible.ensures
    c.if-is_compatible.false)

pub returns-then-i : goal.returns-then-i
unfolding best_record
returns-then-i c = found_none _ _ _ _ (records_end _ _ _ c.loop-i.invariant (omega arith) c.if-i.true)

pub returns-after-loop-i : goal.returns-after-loop-i
unfolding best_record
returns-after-loop-i c = found_none _ _ _ _ (records_none _ _ c.loop-i.i-index c.loop-i.invariant (omega arith))
