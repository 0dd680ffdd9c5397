-- `reader::faults::Entry::filler_bad` meets its contract: the part behind the path holds the unused bytes.
-- Assumes nothing.
use mathlib.Core.Path.{ap, ◌∙◌}
use native.Mathlib.Omega.{arith}
use lib.ListN.{length}
use Rattle.laws.specs.TableLaws.{record_length, filler_hit, filler_rest}
use Rattle.reader.proofs.faults.Entry.filler_bad.Goals as goal

pub slice_bounds-any_outside-end : goal.slice_bounds-any_outside-end
slice_bounds-any_outside-end c = omega (arith, ap length c.record_at-r.ensures, record_length _ _ c.args.self.there)

pub returns-then-any_outside : goal.returns-then-any_outside
returns-then-any_outside c =
    filler_hit c.record_at-r.ensures (c.from-from.ensures ∙ c.hops_at.ensures) c.any_outside.ensures c.if-any_outside.true

pub bounds-r-15 : goal.bounds-r-15
bounds-r-15 c = omega (arith, ap length c.record_at-r.ensures, record_length _ _ c.args.self.there)

pub returns : goal.returns
returns c =
    filler_rest c.record_at-r.ensures (c.from-from.ensures ∙ c.hops_at.ensures) c.any_outside.ensures
    c.if-any_outside.false c.is_outside.ensures
