use Rattle.ring.specs.Ring.{NoneMarked}
use Rattle.ring.proofs.lowest_marked.Given as goal

abbrev pub invariant-loop-v : goal.invariant-loop-v
invariant-loop-v l = NoneMarked l.marks l.v
