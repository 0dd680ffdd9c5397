use Rattle.std.specs.Prelude.{◌≡◌, ◌≤◌}
use Rattle.lists.specs.Search.{count_below}
use Rattle.reporter.specs.Showing.{is_between}
use Rattle.reporter.proofs.counts.count_between.Given as goal

abbrev pub invariant-loop-v : goal.invariant-loop-v
invariant-loop-v l = (1 ≤ l.v) × (l.count ≡ count_below (is_between l.low l.high l.marks) l.v)
