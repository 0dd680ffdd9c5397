-- The lines of a plan, each ended by a line end.
use Rattle.std.specs.Prelude.{ℕ, Bool, List, length, get_or, eqb}
use Rattle.lists.specs.Search.{count_below}

-- whether a line ends at k
unfoldable pub ends_at : List ℕ → ℕ → Bool
ends_at plan k = eqb (get_or plan k 0) 10

-- how many lines end before k
unfoldable pub lines_below : List ℕ → ℕ → ℕ
lines_below plan = count_below (ends_at plan)

-- how many lines the plan has
unfoldable pub lines_in : List ℕ → ℕ
lines_in plan = lines_below plan (length plan)
