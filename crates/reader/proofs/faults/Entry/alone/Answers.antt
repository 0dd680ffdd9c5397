-- `reader::faults::Entry::alone` meets its contract: the part of 16 bytes.
-- Assumes nothing.
use mathlib.Core.Path.{refl}
use native.Mathlib.Omega.{arith}
use Rattle.rules.specs.Table.{records}
use Rattle.reader.specs.FrontLaws.{alone_part, alone_record, alone_there}
use Rattle.reader.proofs.faults.Entry.alone.Goals as goal

pub returns-clause-bytes : goal.returns-clause-bytes
returns-clause-bytes c = alone_part _ _ _ refl

pub overflow_mul-at : goal.overflow_mul-at
unfolding records
overflow_mul-at c = omega arith

pub overflow_add-end : goal.overflow_add-end
unfolding records
overflow_add-end c = omega arith

pub slice_bounds-result-end : goal.slice_bounds-result-end
unfolding records
slice_bounds-result-end c = omega arith

pub invariant_of-result : goal.invariant_of-result
invariant_of-result c = record { there = alone_there _ _ (alone_part _ _ _ refl) c.args.self.there }

pub returns-clause-record : goal.returns-clause-record
returns-clause-record c = alone_record _ _ (alone_part _ _ _ refl)
