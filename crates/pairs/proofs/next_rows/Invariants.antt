use Rattle.std.proofs.Common.{◌≡◌, length, take}
use Rattle.lists.specs.Fill.{tabulate}
use Rattle.pairs.specs.SlotPaths.{held_in}
use Rattle.pairs.specs.NextHops.{next_row}
use Rattle.pairs.proofs.next_rows.Given as goal

abbrev pub invariant-loop-v : goal.invariant-loop-v
invariant-loop-v l = (length l.nexts ≡ 64) × (take l.v l.nexts ≡ tabulate (λ w. next_row (held_in l.table l.slots w)) l.v)
