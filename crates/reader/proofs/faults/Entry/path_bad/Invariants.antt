use mathlib.Core.Path.{◌≡◌}
use mathlib.Core.Bool.{false}
use Rattle.lists.specs.Search.{any_below}
use Rattle.laws.specs.TableLaws.{same_path}
use Rattle.reader.proofs.faults.Entry.path_bad.Given as goal

abbrev pub invariant-loop-j : goal.invariant-loop-j
invariant-loop-j l = any_below (same_path l.self.table.now l.self.i) l.j ≡ false
