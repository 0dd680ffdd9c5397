use Rattle.std.proofs.Common.{◌≡◌, drop}
use Rattle.lists.specs.Renew.{marked}
use Rattle.slices.proofs.mark_all.Given as goal

abbrev pub invariant-loop-v : goal.invariant-loop-v
invariant-loop-v l = marked l.marks (drop l.v-index l.path) ≡ marked l.fn.marks l.path
