-- `ring::fill_front` meets its contract: the bytes as far as they go, and the filler behind them.
-- Assumes nothing.
use mathlib.Core.Path.{sym}
use native.Mathlib.Omega.{arith}
use lib.Seq.{length-take-le}
use Rattle.ring.specs.WalkLaws.{front_written}
use Rattle.ring.proofs.fill_front.Goals as goal

pub slice_bounds-fill_padded-end-2 : goal.slice_bounds-fill_padded-end-2
slice_bounds-fill_padded-end-2 c = sym (length-take-le _ _ (omega arith))

pub returns : goal.returns
returns c =
    front_written _ _ _ _ _ c.min-done.ensures c.fill_padded.ensures c.clear.ensures
