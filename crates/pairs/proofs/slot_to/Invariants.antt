use Rattle.std.proofs.Common.{◌≡◌, ◌-◌}
use Rattle.lists.specs.Search.{first_from}
use Rattle.pairs.specs.NextHopLaws.{there}
use Rattle.pairs.proofs.slot_to.Given as goal

abbrev pub invariant-loop-k : goal.invariant-loop-k
invariant-loop-k l = first_from (there l.nexts l.u) l.k (16 - l.k) ≡ first_from (there l.nexts l.u) 0 16
