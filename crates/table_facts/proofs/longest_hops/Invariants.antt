use mathlib.Core.Path.{◌≡◌}
use Rattle.lists.specs.Search.{max_below}
use Rattle.rules.specs.Table.{records, hops_at}
use Rattle.table_facts.proofs.longest_hops.Given as goal

abbrev pub invariant-loop-i : goal.invariant-loop-i
invariant-loop-i l = (l.count ≡ records l.table) × (l.most ≡ max_below (hops_at l.table) l.i)
