use Rattle.std.proofs.Common.{◌≡◌, ◌≤◌, ◌*◌}
use Rattle.lists.specs.Search.{count_below}
use Rattle.pairs.specs.NextHops.{listens_in}
use Rattle.pairs.proofs.count_pairs.Given as goal

abbrev pub invariant-loop-row : goal.invariant-loop-row
invariant-loop-row l = (l.count ≤ 64 * l.row-index) × (l.count ≡ count_below (listens_in l.nexts) (64 * l.row-index))
