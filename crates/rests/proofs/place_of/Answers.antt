-- `rests::place_of` meets its contract: no path before slot k is the path.
-- Assumes nothing.
use Rattle.std.proofs.Common.{sym, ap, ◌∙◌, arith}
use Rattle.rules.specs.Table.{path_at}
use Rattle.rests.specs.RestLaws.{scanned_none, scanned_next, place_empty, place_hit, place_end}
use Rattle.rests.proofs.place_of.Goals as goal

pub loop-k-init : goal.loop-k-init
loop-k-init c = scanned_none (omega arith)

pub returns-then-same_parts : goal.returns-then-same_parts
returns-then-same_parts c =
    place_hit c.loop-k.invariant _ (omega arith) c.if-i.false
    (c.path_at.ensures ∙ ap (path_at _) c.from.ensures)
    (sym c.same_parts.ensures ∙ c.if-same_parts.true)

pub loop-k-preserved : goal.loop-k-preserved
loop-k-preserved c =
    scanned_next c.loop-k.invariant _ (omega arith) c.if-i.false
    (c.path_at.ensures ∙ ap (path_at _) c.from.ensures)
    (sym c.same_parts.ensures ∙ c.if-same_parts.false)

pub returns-then-i : goal.returns-then-i
returns-then-i c = place_empty c.loop-k.invariant (omega arith) c.if-i.true

pub returns-after-loop-k : goal.returns-after-loop-k
returns-after-loop-k c = place_end c.loop-k.invariant (omega arith)
