-- `admission::bad_offset` meets its contract: what is left of the state from k on tells the answer.
-- Assumes nothing.
use Rattle.std.proofs.Common.{refl, sym, ◌∙◌, arith}
use Rattle.lists.specs.ListLaws.{seek_next}
use Rattle.admission.specs.JudgedLaws.{offset_hit, offset_end}
use Rattle.admission.proofs.bad_offset.Goals as goal

pub loop-k-init : goal.loop-k-init
loop-k-init c = refl

pub returns-then-is_bad : goal.returns-then-is_bad
returns-then-is_bad c =
    offset_hit _ _ c.loop-k.k c.loop-k.invariant (omega arith)
    (sym c.is_bad.ensures ∙ c.if-is_bad.true)

pub loop-k-preserved : goal.loop-k-preserved
loop-k-preserved c =
    seek_next _ _ 0 c.loop-k.k _ c.loop-k.invariant (omega arith)
    (sym c.is_bad.ensures ∙ c.if-is_bad.false)

pub returns : goal.returns
returns c = offset_end _ _ c.loop-k.k c.loop-k.invariant (omega arith)
