-- `slices::fill_padded` meets its contract: below `at` stand the bytes, and 255 past their end.
-- Assumes nothing.
use Rattle.std.proofs.Common.{sym, ◌∙◌, arith}
use Rattle.std.proofs.Math.Path.{refl}
use Rattle.lists.specs.FillLaws.{tabulate_none, fill_more, fill_end, padded_tabulate}
use Rattle.slices.proofs.fill_padded.Goals as goal

pub loop-at-init : goal.loop-at-init
loop-at-init c = sym (tabulate_none _)

pub loop-at-preserved : goal.loop-at-preserved
loop-at-preserved c = fill_more _ _ _ c.loop-at.at _ c.loop-at.invariant (omega arith) refl c.value_or.ensures

pub returns : goal.returns
returns c = fill_end _ _ _ _ c.loop-at.invariant (sym c.loop-at.auto.part) (omega arith) ∙ sym (padded_tabulate 255 _ _)
