use Rattle.std.proofs.Common.{◌≡◌, drop}
use Rattle.lists.specs.Search.{any_in, outside}
use Rattle.slices.proofs.any_outside.Given as goal

abbrev pub invariant-loop-b : goal.invariant-loop-b
invariant-loop-b l = any_in (outside l.low l.high) (drop l.b-index l.part) ≡ any_in (outside l.low l.high) l.part
