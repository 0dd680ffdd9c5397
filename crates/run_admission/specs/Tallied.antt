-- What the rules' run has come to on its way.
use Rattle.std.specs.Prelude.{ℕ, List, take}
use Rattle.rules.specs.Table.{paths_of}
use Rattle.rules.specs.Run.{Tally, pairs_in, run}

-- after i pairs
unfoldable pub tally_at : List ℕ → List ℕ → List ℕ → ℕ → Tally
tally_at t start schedule i = run (paths_of t) start (take i (pairs_in schedule))
