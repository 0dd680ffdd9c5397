use Rattle.std.proofs.Common.{◌≡◌, ◌≤◌}
use Rattle.lists.specs.Search.{count_below}
use Rattle.pairs.specs.NextHopLaws.{met_before}
use Rattle.pairs.proofs.count_row.Given as goal

abbrev pub invariant-loop-k : goal.invariant-loop-k
invariant-loop-k l = (l.count ≤ l.k) × (l.count ≡ count_below (met_before l.nexts l.k) 64)
