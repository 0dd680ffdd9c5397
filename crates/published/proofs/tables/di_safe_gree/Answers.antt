-- `published::tables::di_safe_gree` meets its contract: its bytes are those of the definition.
-- Assumes nothing.
use mathlib.Core.Path.{refl}
use Rattle.rules.specs.TriedExamples.{raw_record, record_bytes, block_bytes, table_bytes}
use Rattle.theorems.specs.Published.{di_safe_gree, di_safe_gree_bytes}
use Rattle.published.proofs.tables.di_safe_gree.Goals as goal

pub returns : goal.returns
unfolding raw_record record_bytes block_bytes table_bytes di_safe_gree di_safe_gree_bytes
returns c = refl
