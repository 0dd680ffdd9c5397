-- What has to be heard for each path, and the search for a rest among the next hop's paths.
use Rattle.std.specs.Prelude.{ℕ, ◌<◌, ◌≤◌, ◌≡◌, Bool, false, not, ◌&&◌, List, [], map, length, get_or, eqb}
use Rattle.lists.specs.Search.{same}
use Rattle.lists.specs.Fill.{padded}
use Rattle.rules.specs.Table.{Path, next_hop, rest}
use Rattle.rules.specs.Machine.{byte_for}
use Rattle.pairs.specs.SlotPaths.{slot_paths}

-- the byte that has to be heard from the next hop of a path: that of its rest
unfoldable pub asked_for : (ℕ → List Path) → Path → ℕ
asked_for paths p = byte_for paths (next_hop p) (rest p)

-- the byte asked for each path, over 16 slots
unfoldable pub asked_row : (ℕ → List Path) → List Path → List ℕ
asked_row paths own = padded 16 0 (map (asked_for paths) own)

-- whether the byte asked for is the one heard; 0 is never asked for
abbrev pub hears_byte : ℕ → ℕ → Bool
hears_byte asked b = not (eqb asked 0) && eqb b asked

-- a search for a path through a row of slots that has come to slot k: the slots before it hold other paths
pub record Scanned (t row : List ℕ) (path : Path) (k : ℕ) : Type 0 where
  pub size : length row ≡ 16
  pub under : k ≤ length (slot_paths t row)
  pub failed : (j : ℕ) → j < k → same path (get_or (slot_paths t row) j []) ≡ false
