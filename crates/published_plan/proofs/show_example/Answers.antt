-- `published_plan::show_example` meets its contract: a line begins no later than the byte that is looked at, and the
-- lines that end before it are counted.
-- Assumes nothing.
use Rattle.std.proofs.Common.{◌∙◌, arith}
use Rattle.published_plan.specs.PlanLaws.{lines_none, line_ends, line_goes_on, lines_most, lines_all}
use Rattle.published_plan.proofs.show_example.Goals as goal
use Rattle.published_plan.proofs.show_example.Goals.{then-b-eq10, else-b-eq10}

pub loop-k-init : goal.loop-k-init
loop-k-init g c = (omega arith, lines_none _)

pub overflow_add-lines : goal.overflow_add-lines
overflow_add-lines g c =
    let l = c.loop-k in
    omega (arith, lines_most _ l.k _ l.invariant.1)

pub loop-k-preserved : goal.loop-k-preserved
loop-k-preserved g c =
    let l = c.loop-k in
    elim c.if-b-eq10.branch [
      | then-b-eq10 w ↦ (omega arith, w.lines-is ∙ line_ends _ l.k _ l.invariant.1 w.if-b-eq10.true)
      | else-b-eq10 w ↦ (omega arith, w.lines-is ∙ line_goes_on _ l.k _ l.invariant.1 w.if-b-eq10.false)
    ]

pub returns : goal.returns
returns g c =
    let l = c.loop-k in
    lines_all _ l.k _ l.invariant.1 (omega arith)
