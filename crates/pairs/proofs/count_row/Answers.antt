-- `pairs::count_row` meets its contract: the vertices that the slots before k lead to are counted.
-- Assumes nothing.
use Rattle.std.proofs.Common.{arith, ◌∙◌}
use Rattle.pairs.specs.NextHopLaws.{met_none, met_all, met_no_vertex, met_again, met_more}
use Rattle.pairs.proofs.count_row.Goals.{then-u-lt-VERTICES+then-k-slot_to, else-u-lt-VERTICES, else-u-lt-VERTICES-via-then-u-lt-VERTICES+else-k-slot_to, else-u-lt-VERTICES-via-else-u-lt-VERTICES}
use Rattle.pairs.proofs.count_row.Goals as goal

pub loop-k-init : goal.loop-k-init
loop-k-init c = (omega arith, met_none _)

pub loop-k-preserved : goal.loop-k-preserved
loop-k-preserved c =
    let i = c.loop-k.invariant in
    elim c.if-u-lt-VERTICES.branch [
      | then-u-lt-VERTICES+then-k-slot_to w ↦ (
        omega arith,
        w.count-is ∙ met_more _ _ _ i.1 (omega arith) _ w.slot_to.ensures w.if-u-lt-VERTICES.true w.if-k-slot_to.true,
      )
      | else-u-lt-VERTICES w ↦ (
        omega arith,
        w.count-is ∙ elim w.else-u-lt-VERTICES.branch [
          | else-u-lt-VERTICES-via-then-u-lt-VERTICES+else-k-slot_to x ↦
              met_again _ _ _ i.1 (omega arith) _ x.slot_to.ensures x.if-k-slot_to.false
          | else-u-lt-VERTICES-via-else-u-lt-VERTICES x ↦
              met_no_vertex _ _ _ i.1 (omega arith) x.if-u-lt-VERTICES.false
        ],
      )
    ]

pub returns : goal.returns
returns c = let i = c.loop-k.invariant in met_all _ _ _ i.1 (omega arith) (omega arith)
