-- `reporter::counts::count_between` meets its contract: the count of the vertices below v.
-- Assumes nothing.
use Rattle.std.proofs.Common.{◌≡◌, arith}
use Rattle.reporter.specs.Showing.{count_between}
use Rattle.reporter.specs.ShowingLaws.{count_none, count_skip, count_more, count_small}
use Rattle.reporter.proofs.counts.count_between.Goals as goal
use Rattle.reporter.proofs.counts.count_between.Goals.{then-not-is_outside, else-not-is_outside}

pub loop-v-init : goal.loop-v-init
loop-v-init c = (omega arith, count_none _ _ _)

pub overflow_add-count : goal.overflow_add-count
overflow_add-count c = omega (arith, count_small _ _ _ c.loop-v.v _ c.loop-v.invariant.1)

pub loop-v-preserved : goal.loop-v-preserved
loop-v-preserved c =
    let l = c.loop-v in
    elim c.if-not-is_outside.branch [
      | then-not-is_outside w ↦ (omega arith, rw w.count-is (count_more _ _ _ l.v _ (omega arith) l.invariant.0 c.loop-v-test.true l.invariant.1 _ c.is_outside.ensures w.if-not-is_outside.true))
      | else-not-is_outside w ↦ (omega arith, rw w.count-is (count_skip _ _ _ l.v _ (omega arith) l.invariant.0 c.loop-v-test.true l.invariant.1 _ c.is_outside.ensures w.if-not-is_outside.false))
    ]

pub returns : goal.returns
unfolding count_between
returns c = let e : c.loop-v.v ≡ 64 = omega arith in rw (← e) c.loop-v.invariant.1
