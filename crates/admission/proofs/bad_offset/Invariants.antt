use mathlib.Core.Path.{◌≡◌}
use lib.ListN.{drop}
use Rattle.lists.specs.Search.{first_in}
use Rattle.admission.specs.Judged.{bad_heard}
use Rattle.admission.proofs.bad_offset.Given as goal

abbrev pub invariant-loop-k : goal.invariant-loop-k
invariant-loop-k l = first_in (bad_heard l.nexts) l.k (drop l.k l.heard) ≡ first_in (bad_heard l.nexts) 0 l.heard
