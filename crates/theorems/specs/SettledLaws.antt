-- The first pairs of a schedule; the laws of stages and rounds, over the bytes of a table and its rows, stand in proofs/.
use Rattle.std.specs.Prelude.{ℕ, List, take, drop}
use Rattle.std.proofs.Common.{take-append-drop}
use Rattle.rules.specs.Machine.{Pair}
use Rattle.theorems.specs.LastingLaws.{InRange, range_parts}

-- the first pairs of a schedule of vertices, and the others
pub range_take : (n : ℕ) (s : List Pair) → InRange s → InRange (take n s) × InRange (drop n s)
range_take n s r = range_parts (take n s) (drop n s) (rw (take-append-drop n s) r)
