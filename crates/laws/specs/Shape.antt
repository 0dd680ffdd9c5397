-- What the laws use of the permitted paths: the shape that the rules page gives every record of an accepted table, over paths.
use Rattle.std.specs.Prelude.{◌≡◌, Bool, true, false, List, [], ℕ, pred, ◌<◌, ◌≤◌, length, get_or}
use Rattle.rules.specs.Table.{Path}
use Rattle.lists.specs.Search.{twice}

-- a permitted path of v
pub record Permitted (present : ℕ → Bool) (v : ℕ) (p : Path) : Type 0 where
  pub owner : get_or p 0 0 ≡ v
  pub long : 2 ≤ length p
  pub short : length p ≤ 13
  pub vertices : (k : ℕ) → k < length p → get_or p k 0 < 64
  pub named : (k : ℕ) → k < length p → present (get_or p k 0) ≡ true
  pub simple : twice p ≡ false
  pub last : get_or p (pred (length p)) 0 ≡ 0

-- the paths of a whole table, and the vertices that are present in it
pub record Shaped (paths : ℕ → List Path) (present : ℕ → Bool) : Type 0 where
  pub permitted : (v k : ℕ) → k < length (paths v) → Permitted present v (get_or (paths v) k [])
  pub distinct : (v i j : ℕ) → i < j → j < length (paths v) → get_or (paths v) i [] ≡ get_or (paths v) j [] → ⊥
  pub few : (v : ℕ) → length (paths v) ≤ 16
  pub destination : paths 0 ≡ []
  pub origin : present 0 ≡ true
  pub range : (v : ℕ) → present v ≡ true → v < 64
