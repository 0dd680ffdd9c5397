use Prim.Native.Nat.{◌≤◌, ◌-◌}
use Rattle.choice.specs.ChoosingLaws.{Searched}
use Rattle.choice.proofs.Slots.choose.Given as goal

abbrev pub invariant-loop-k : goal.invariant-loop-k
invariant-loop-k l = (l.k ≤ 16) × Searched l.self.nexts.now l.self.asked.now l.heard l.v l.k

abbrev pub decreases-loop-k : goal.decreases-loop-k
decreases-loop-k l = 16 - l.k
