use Rattle.std.proofs.Common.{◌≡◌, ◌≤◌}
use Rattle.published_plan.specs.PlanLines.{lines_below}
use Rattle.published_plan.proofs.show_example.Given as goal

abbrev pub invariant-loop-k : goal.invariant-loop-k
invariant-loop-k g l = (l.first ≤ l.k) × (l.lines ≡ lines_below l.plan l.k)
