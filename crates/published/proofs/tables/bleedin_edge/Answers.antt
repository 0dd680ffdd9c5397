-- `published::tables::bleedin_edge` meets its contract: its bytes are those of the definition.
-- Assumes nothing.
use mathlib.Core.Path.{refl}
use Rattle.rules.specs.TriedExamples.{raw_record, record_bytes, block_bytes, table_bytes}
use Rattle.theorems.specs.Published.{bleedin_edge, bleedin_edge_bytes}
use Rattle.published.proofs.tables.bleedin_edge.Goals as goal

pub returns : goal.returns
unfolding raw_record record_bytes block_bytes table_bytes bleedin_edge bleedin_edge_bytes
returns c = refl
