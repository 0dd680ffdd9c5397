-- `checker::settle::start_marks` meets its contract: each element is the mark at the start.
-- Assumes nothing.
use mathlib.Core.Path.{refl, ◌∙◌}
use mathlib.Core.Bool.{false}
use borrow.Author.Rules.{rules}
use lib.ListN.{get_or}
use Rattle.lists.specs.FillLaws.{tabulate_ext}
use Rattle.slices.specs.FromFn.{tabulated}
use Rattle.checker.specs.AfterStages.{start_mark}
use Rattle.checker.specs.StartLaws.{start_same}
use Rattle.checker.proofs.settle.start_marks.Goals as goal

pub returns : goal.returns
returns c =
    tabulated _ _ (λ i. start_mark (λ u. get_or c.args.present i false) i) (λ i y q made. search rules) 0 _ 64 c.from_fn.ensures.items
    ∙ tabulate_ext _ _ 64 (λ v h. start_same _ _ v refl)
