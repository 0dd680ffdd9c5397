use Rattle.rests.specs.Rests.{Scanned}
use Rattle.rests.proofs.place_of.Given as goal

abbrev pub invariant-loop-k : goal.invariant-loop-k
invariant-loop-k l = Scanned l.table l.row l.path l.k
