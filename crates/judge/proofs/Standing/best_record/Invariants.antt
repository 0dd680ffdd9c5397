use Rattle.std.proofs.Common.{◌≡◌, drop}
use Rattle.judge.specs.Standing.{best_record}
use Rattle.judge.proofs.Standing.best_record.Given as goal

abbrev pub invariant-loop-i : goal.invariant-loop-i
invariant-loop-i l =
    best_record l.table l.self.marks l.self.shown (drop l.i-index l.slots)
    ≡ best_record l.table l.self.marks l.self.shown l.slots
