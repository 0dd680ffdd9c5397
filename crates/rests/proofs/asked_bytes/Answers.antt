-- `rests::asked_bytes` meets its contract: each vertex has its row.
-- Assumes nothing.
use Rattle.std.proofs.Common.{refl, sym, ◌∙◌, arith, List, ℕ, replicate, length-set}
use Rattle.std.proofs.lemmas.List.{length-replicate}
use Rattle.lists.specs.FillLaws.{tabulate_none, fill_more, fill_end}
use Rattle.rests.specs.RestLaws.{asked_slotted}
use Rattle.rests.proofs.asked_bytes.Goals as goal

pub loop-v-init : goal.loop-v-init
loop-v-init c = (length-replicate {A = List ℕ} 64 (replicate 16 0), sym (tabulate_none _))

pub loop-v-preserved : goal.loop-v-preserved
loop-v-preserved c =
    let i = c.loop-v.invariant in (
      length-set c.loop-v.asked c.loop-v.v _ ∙ i.0,
      fill_more _ _ _ c.loop-v.v _ i.1 (omega arith) refl (asked_slotted _ _ _ _ c.slots_of-slots.ensures (omega arith) c.asked_row.ensures),
    )

pub returns : goal.returns
returns c = let i = c.loop-v.invariant in fill_end _ _ _ _ i.1 (sym i.0) (omega arith)
