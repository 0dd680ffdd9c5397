-- `pairs::steady_slot_to` meets its contract: the slot is the first from k on.
-- Assumes nothing.
use Rattle.std.proofs.Common.{◌≡◌, ap, ◌∙◌, arith}
use Rattle.pairs.specs.NextHopLaws.{slot_from, from_all}
use Rattle.pairs.proofs.steady_slot_to.Goals as goal

pub returns : goal.returns
returns c =
    let z : c.loop-k.k ≡ 0 = omega arith in
    c.loop-k.invariant ∙ ap (slot_from _ _) z ∙ from_all _ _
