use Rattle.std.proofs.Common.{◌≡◌, get_or, take}
use Rattle.lists.specs.Fill.{tabulate}
use Rattle.slices.proofs.fill_padded.Given as goal

abbrev pub invariant-loop-at : goal.invariant-loop-at
invariant-loop-at l = take l.at l.part ≡ tabulate (λ i. get_or l.bytes i 255) l.at
