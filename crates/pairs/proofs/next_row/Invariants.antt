use Rattle.rules.specs.Table.{next_hop}
use Rattle.pairs.specs.SlotPaths.{FilledTo}
use Rattle.pairs.proofs.next_row.Given as goal

abbrev pub invariant-loop-k : goal.invariant-loop-k
invariant-loop-k l = FilledTo next_hop 255 l.table l.fn.row l.nexts l.k
