-- `slices::has_twice` meets its contract: the marks are those of the numbers before v, none of which stands twice.
-- Assumes nothing.
use Rattle.std.proofs.Common.{sym, ◌∙◌, arith}
use Rattle.std.proofs.Math.Path.{refl}
use Rattle.lists.specs.Search.{twice}
use Rattle.lists.specs.ListLaws.{met_all}
use Rattle.lists.proofs.ListLaws.{met_again, met_new}
use Rattle.lists.specs.FillLaws.{met_none, met_mark, met_look}
use Rattle.slices.proofs.has_twice.Goals as goal

pub loop-v-init : goal.loop-v-init
unfolding twice
loop-v-init c = (met_none c.args.part.now 256, refl)

pub returns-then-seen-at : goal.returns-then-seen-at
returns-then-seen-at c =
    met_again _ c.loop-v.v-index c.loop-v-test.true
    (sym (met_look c.args.part.now 256 c.loop-v.v-index _ _ _ c.loop-v.invariant.0 (omega arith)) ∙ c.if-seen-at.true)

pub loop-v-preserved : goal.loop-v-preserved
loop-v-preserved c =
    let h = c.loop-v-test.true in (
      met_mark c.args.part.now 256 c.loop-v.v-index _ c.loop-v.invariant.0 h,
      met_new _ c.loop-v.v-index h c.loop-v.invariant.1
          (sym (met_look c.args.part.now 256 c.loop-v.v-index _ _ _ c.loop-v.invariant.0 (omega arith)) ∙ c.if-seen-at.false),
    )

pub returns : goal.returns
returns c = met_all _ _ c.loop-v-test.false c.loop-v.invariant.1
