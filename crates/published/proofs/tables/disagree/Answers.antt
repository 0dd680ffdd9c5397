-- `published::tables::disagree` meets its contract: its bytes are those of the definition.
-- Assumes nothing.
use mathlib.Core.Path.{refl}
use Rattle.rules.specs.TriedExamples.{raw_record, record_bytes, block_bytes, table_bytes}
use Rattle.theorems.specs.Published.{disagree, disagree_bytes}
use Rattle.published.proofs.tables.disagree.Goals as goal

pub returns : goal.returns
unfolding raw_record record_bytes block_bytes table_bytes disagree disagree_bytes
returns c = refl
