use Rattle.std.specs.Prelude.{[], length}
use Rattle.rules.specs.Greedy.{closed_part}
use Rattle.ring.specs.Ring.{next_in}
use Rattle.ring.specs.WalkLaws.{Walk}
use Rattle.ring.proofs.walk.Given as goal

abbrev pub invariant-loop-n : goal.invariant-loop-n
invariant-loop-n l =
    Walk (next_in l.next) (length l.initial.seen) l.seen l.n l.v (closed_part (next_in l.next) (length l.initial.seen) [] l.start)
