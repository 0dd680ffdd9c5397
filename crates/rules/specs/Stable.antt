-- The rules page, "Greedy stages", last paragraph: stable assignments. The machine's choice reads the same definition.
use Rattle.std.specs.Prelude.{ℕ, ◌≡◌, ◌≢◌, Bool, true, List, [], ◌∷◌}
use Rattle.lists.specs.Search.{same}
use Rattle.rules.specs.Table.{Path, first, next_hop, rest}

-- whether p is its owner followed by what is given of its next hop
unfoldable pub extends : (ℕ → Path) → Path → Bool
extends given p = same (rest p) (given (next_hop p))

-- "the best permitted path of the form v followed by the assigned path of its next hop, or none if there is no such path"
unfoldable pub best_given : (ℕ → List Path) → (ℕ → Path) → ℕ → Path
best_given paths given v = first (extends given) (paths v)

-- "A stable assignment gives 0 the path (0) and each other present vertex .."
pub record Stable (paths : ℕ → List Path) (present : ℕ → Bool) (assigned : ℕ → Path) : Type 0 where
  pub destination : assigned 0 ≡ 0 ∷ []
  pub others : (v : ℕ) → v ≢ 0 → present v ≡ true → assigned v ≡ best_given paths assigned v
