-- `judge::stage` meets its contract: the marks and records below v are new.
-- Assumes nothing.
use Rattle.std.proofs.Common.{arith}
use Rattle.judge.specs.StandingLaws.{judged_none, judged_skip, judged_wait, judged_enter, judged_all}
use Rattle.judge.proofs.stage.Goals as goal
use Rattle.judge.proofs.stage.Goals.{then-is_judged+then-enters, then-is_judged+else-enters, else-is_judged}

pub loop-v-init : goal.loop-v-init
loop-v-init c = judged_none _ _ _ _ _

pub loop-v-preserved : goal.loop-v-preserved
loop-v-preserved c =
    let i = c.loop-v.invariant in
    let h = c.loop-v-test.true in
    elim c.if-is_judged.branch [
      | then-is_judged+then-enters w ↦ rw w.after-is
          (judged_enter i (omega arith) (omega arith) h c.is_judged.ensures w.if-is_judged.true w.best_record-best.ensures
          w.unwrap_or.ensures w.enters.ensures w.if-enters.true)
      | then-is_judged+else-enters w ↦ rw w.after-is
          (judged_wait i (omega arith) (omega arith) h c.is_judged.ensures w.if-is_judged.true w.best_record-best.ensures
          w.unwrap_or.ensures w.enters.ensures w.if-enters.false)
      | else-is_judged w ↦ rw w.after-is (judged_skip i (omega arith) (omega arith) h c.is_judged.ensures w.if-is_judged.false)
    ]

pub returns : goal.returns
returns c = judged_all c.loop-v.invariant (omega arith) (omega arith) (omega arith)
