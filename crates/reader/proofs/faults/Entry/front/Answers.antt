-- `reader::faults::Entry::front` meets its contract: the part from behind the rank.
-- Assumes nothing.
use mathlib.Core.Path.{refl}
use native.Mathlib.Omega.{arith}
use Rattle.rules.specs.Table.{records}
use Rattle.reader.specs.FrontLaws.{front_part}
use Rattle.reader.proofs.faults.Entry.front.Goals as goal

pub overflow_mul-at : goal.overflow_mul-at
unfolding records
overflow_mul-at c = omega arith

pub overflow_add-at : goal.overflow_add-at
unfolding records
overflow_add-at c = omega arith

pub overflow_add-end : goal.overflow_add-end
unfolding records
overflow_add-end c = omega arith

pub slice_bounds-result-end : goal.slice_bounds-result-end
unfolding records
slice_bounds-result-end c = omega arith

pub returns : goal.returns
returns c = front_part _ _ _ _ _ c.requires (omega arith) refl
