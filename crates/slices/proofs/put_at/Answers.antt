-- `slices::put_at` meets its contract: a store past the end changes nothing.
-- Assumes nothing.
use Rattle.std.proofs.Common.{sym}
use Rattle.std.proofs.Math.Seq.{set_out}
use Rattle.slices.proofs.put_at.Goals as goal

pub returns-else-at-part : goal.returns-else-at-part
returns-else-at-part g c = sym (set_out _ _ _ c.if-at-part.false)
