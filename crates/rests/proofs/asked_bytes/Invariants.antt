use Rattle.std.proofs.Common.{◌≡◌, length, take}
use Rattle.lists.specs.Fill.{tabulate}
use Rattle.pairs.specs.SlotPaths.{slotted}
use Rattle.rests.specs.Rests.{asked_row}
use Rattle.rests.proofs.asked_bytes.Given as goal

abbrev pub invariant-loop-v : goal.invariant-loop-v
invariant-loop-v l = (length l.asked ≡ 64)
    × (take l.v l.asked ≡ tabulate (λ v. asked_row (slotted l.table) (slotted l.table v)) l.v)
