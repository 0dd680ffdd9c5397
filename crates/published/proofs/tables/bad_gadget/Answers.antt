-- `published::tables::bad_gadget` meets its contract: its bytes are those of the definition.
-- Assumes nothing.
use mathlib.Core.Path.{refl}
use Rattle.rules.specs.TriedExamples.{raw_record, record_bytes, block_bytes, table_bytes}
use Rattle.theorems.specs.Published.{bad_gadget, bad_gadget_bytes}
use Rattle.published.proofs.tables.bad_gadget.Goals as goal

pub returns : goal.returns
unfolding raw_record record_bytes block_bytes table_bytes bad_gadget bad_gadget_bytes
returns c = refl
