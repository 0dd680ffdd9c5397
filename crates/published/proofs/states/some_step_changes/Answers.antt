-- `published::states::some_step_changes` meets its contract: `any` asks the step at each pair.
-- Assumes nothing.
use Rattle.std.proofs.Common.{rules, ◌∙◌}
use Rattle.std.proofs.Math.Path.{refl}
use Rattle.std.proofs.lemmas.Iterator.{YieldsList-from_range}
use Rattle.std.proofs.lemmas.Iterator.Search.{any_from_yields_List}
use Rattle.theorems.specs.Published.{changes_at, some_step_changes}
use Rattle.published.specs.StateLaws.{any_ranged}
use Rattle.published.proofs.states.some_step_changes.Goals as goal

pub returns : goal.returns
unfolding some_step_changes
returns c =
    let test = changes_at c.args.table.now c.args.heard in
    any_from_yields_List test _ _ _ c.any.ensures.ran (YieldsList-from_range 0 4096 4096 refl refl) (λ x b q k. search rules)
    ∙ any_ranged test 4096
