use Rattle.std.proofs.Common.{◌≡◌, drop}
use Rattle.rules.specs.Greedy.{compatible}
use Rattle.judge.specs.Standing.{settled_by}
use Rattle.judge.proofs.Standing.is_compatible.Given as goal

abbrev pub invariant-loop-hop : goal.invariant-loop-hop
invariant-loop-hop l =
    compatible (settled_by l.table l.self.marks l.self.shown) (drop l.hop l.path)
    ≡ compatible (settled_by l.table l.self.marks l.self.shown) l.path
