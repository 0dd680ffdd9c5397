use mathlib.Core.Path.{◌≡◌}
use Rattle.lists.specs.Fill.{tabulate}
use Rattle.rules.specs.Table.{records}
use Rattle.laws.specs.PassLaws.{named_below}
use Rattle.table_facts.proofs.present_in.Given as goal

abbrev pub invariant-loop-i : goal.invariant-loop-i
invariant-loop-i l = (l.count ≡ records l.table) × (l.named ≡ tabulate (named_below l.table l.i) 64)
