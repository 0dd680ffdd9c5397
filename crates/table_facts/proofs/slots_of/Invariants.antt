use mathlib.Core.Path.{◌≡◌}
use Prim.Native.Nat.{min}
use Rattle.rules.specs.Table.{records}
use Rattle.laws.specs.PassLaws.{Slotted}
use Rattle.table_facts.proofs.slots_of.Given as goal

abbrev pub invariant-loop-i : goal.invariant-loop-i
invariant-loop-i l = (l.count ≡ min (records l.table) 1008) × Slotted l.table l.i l.slots l.used
