-- `pairs::next_rows` meets its contract: each vertex has its row.
-- Assumes nothing.
use Rattle.std.proofs.Common.{ℕ, List, sym, ap, ◌∙◌, arith}
use Rattle.std.proofs.Math.Path.{refl}
use Rattle.std.proofs.Math.ListN.{replicate, length-set, length-replicate}
use Rattle.lists.specs.FillLaws.{tabulate_none, fill_more, fill_end}
use Rattle.pairs.specs.SlotPathLaws.{held_vertex}
use Rattle.pairs.specs.NextHops.{next_row}
use Rattle.pairs.proofs.next_rows.Goals as goal

pub loop-v-init : goal.loop-v-init
loop-v-init c = (length-replicate {A = List ℕ} 64 (replicate 16 255), sym (tabulate_none _))

pub loop-v-preserved : goal.loop-v-preserved
loop-v-preserved c =
    let i = c.loop-v.invariant in (
      length-set c.loop-v.nexts c.loop-v.v _ ∙ i.0,
      fill_more _ _ _ c.loop-v.v _ i.1 (omega arith) refl
          (c.next_row.ensures ∙ ap next_row (held_vertex _ _ _ c.loop-v-test.true)),
    )

pub returns : goal.returns
returns c = let i = c.loop-v.invariant in fill_end _ _ _ _ i.1 (sym i.0) (omega arith)
