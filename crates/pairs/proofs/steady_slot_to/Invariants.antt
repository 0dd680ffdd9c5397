use Rattle.std.proofs.Common.{◌≡◌}
use Rattle.pairs.specs.NextHopLaws.{slot_from}
use Rattle.pairs.proofs.steady_slot_to.Given as goal

abbrev pub invariant-loop-k : goal.invariant-loop-k
invariant-loop-k l = l.slot ≡ slot_from l.nexts l.u l.k
