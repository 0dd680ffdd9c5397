use Rattle.std.proofs.Common.{◌≡◌, false, take}
use Rattle.lists.specs.Search.{elem, twice}
use Rattle.lists.specs.Fill.{tabulate}
use Rattle.slices.proofs.has_twice.Given as goal

abbrev pub invariant-loop-v : goal.invariant-loop-v
invariant-loop-v l = (l.seen ≡ tabulate (λ v. elem v (take l.v-index l.part)) 256) × (twice (take l.v-index l.part) ≡ false)
