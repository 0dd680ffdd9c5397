-- A walk over a schedule by its pairs.
use Rattle.std.specs.Prelude.{◌≡◌, ℕ, ◌*◌, ◌≤◌, List, length, drop}

-- what `chunks_exact(2)` has left after i pairs
pub record PairsLeft (s rest : List ℕ) (size i : ℕ) : Type 0 where
  pub two : size ≡ 2
  pub left : rest ≡ drop (2 * i) s
  pub within : 2 * i ≤ length s
