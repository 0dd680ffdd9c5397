-- `text_writing::Writer::put` meets its contract: as much is copied as there is room for.
-- Assumes nothing.
use mathlib.Core.Path.{refl}
use native.Mathlib.Omega.{arith}
use Rattle.text_writing.specs.LayLaws.{laid_copied}
use Rattle.text_writing.proofs.Writer.put.Goals as goal

pub returns : goal.returns
returns c =
    record {
      laid = laid_copied c.min-from.ensures c.min-count.ensures c.copy_from_slice.ensures.after (omega arith);
      same_buffer = refl;
    }
