use Prim.Native.Nat.{◌≤◌, ◌-◌}
use Rattle.rules.specs.Table.{paths_of, present}
use Rattle.rules.specs.Greedy.{stage_count}
use Rattle.checker.specs.AfterStages.{Stands}
use Rattle.checker.proofs.settle.settle.Given as goal

abbrev pub invariant-loop-slots : goal.invariant-loop-slots
invariant-loop-slots l =
    let t = l.table.bytes.now in
    record {
      counted : l.stages ≤ stage_count (paths_of t) (present t);
      few : stage_count (paths_of t) (present t) ≤ 63;
      stands : Stands t l.stages l.now.marks l.now.shown;
    }

abbrev pub decreases-loop-slots : goal.decreases-loop-slots
decreases-loop-slots l = 64 - l.stages
