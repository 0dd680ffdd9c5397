use Rattle.pairs.specs.SlotPaths.{held_in, FilledTo}
use Rattle.rests.specs.Rests.{asked_for}
use Rattle.rests.proofs.asked_row.Given as goal

abbrev pub invariant-loop-k : goal.invariant-loop-k
invariant-loop-k l = FilledTo (asked_for (held_in l.table l.slots)) 0 l.table l.fn.row l.asked l.k
