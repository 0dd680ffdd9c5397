-- `table_facts::present_in` meets its contract: the marks are those of the records below i.
-- Assumes nothing.
use mathlib.Core.Path.{refl, sym, ap, ◌∙◌}
use native.Mathlib.Omega.{arith}
use lib.ListN.{length}
use Rattle.lists.specs.FillLaws.{tabulate_length}
use Rattle.rules.specs.Table.{records}
use Rattle.laws.specs.PassLaws.{names_none, names_more, names_all}
use Rattle.table_facts.proofs.present_in.Goals as goal

pub loop-i-init : goal.loop-i-init
unfolding records
loop-i-init c = (refl, names_none _)

pub slice_bounds-mark_all-end : goal.slice_bounds-mark_all-end
slice_bounds-mark_all-end c = sym (ap length c.loop-i.invariant.1 ∙ tabulate_length _ 64)

pub loop-i-preserved : goal.loop-i-preserved
loop-i-preserved c =
    let at-loop = c.loop-i in (
      at-loop.invariant.0,
      c.mark_all.ensures ∙ names_more _ _ at-loop.invariant.1 c.path_at.ensures,
    )

pub returns : goal.returns
returns c = names_all _ _ _ (omega arith) c.loop-i.invariant.1
