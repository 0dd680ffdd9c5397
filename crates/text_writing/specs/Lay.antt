-- What it is to lay a piece over a buffer from a place on, as far as it fits.
use Rattle.std.specs.Prelude.{ℕ, ◌+◌, ◌-◌, min, ◌≡◌, List, ◌++◌, length, take, drop}

-- the piece over the front of a list, cut at the list's end; what is behind the piece stays
unfoldable pub overlaid : List ℕ → List ℕ → List ℕ
overlaid new old = take (length old) (new ++ drop (length new) old)

-- The piece is laid from the place `at` on: what stands there afterwards, and the place behind what was laid.
pub record Laid (at : ℕ) (piece before after : List ℕ) (next : ℕ) : Type 0 where
  pub stands : after ≡ take at before ++ overlaid piece (drop at before)
  pub reaches : next ≡ at + min (length piece) (length before - at)
