use mathlib.Core.Path.{◌≡◌}
use Prim.Native.Nat.{◌-◌}
use Rattle.lists.specs.Search.{first_from}
use Rattle.rules.specs.Table.{records}
use Rattle.rules.specs.Refusals.{faulty, first_bad}
use Rattle.laws.specs.TableLaws.{Orderly}
use Rattle.reader.proofs.read.Given as goal

abbrev pub invariant-loop-i : goal.invariant-loop-i
invariant-loop-i l =
    record {
      orderly : Orderly l.table l.i;
      still : first_from (faulty l.table) l.i (records l.table - l.i) ≡ first_bad l.table;
    }
