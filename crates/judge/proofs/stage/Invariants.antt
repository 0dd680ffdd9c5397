use Rattle.judge.specs.StandingLaws.{Judged}
use Rattle.judge.proofs.stage.Given as goal

abbrev pub invariant-loop-v : goal.invariant-loop-v
invariant-loop-v l = Judged l.table l.fn.slots l.before.marks l.before.shown l.number l.v l.after.marks l.after.shown
