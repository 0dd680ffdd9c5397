-- `reader::faults::Entry::fault` meets its contract: it calls each test with what those before it have shown.
-- Assumes nothing.
use mathlib.Core.Path.{sym, ap, ◌∙◌}
use Rattle.rules.specs.Refusals.{hops_bad}
use Rattle.laws.specs.TableLaws.{hops_small, orderly_more}
use Rattle.reader.proofs.faults.Entry.fault.Goals as goal

pub filler_bad-requires : goal.filler_bad-requires
filler_bad-requires c = hops_small _ _ _ c.hops_bad.ensures c.if-hops_bad.false

pub path_bad-requires : goal.path_bad-requires
path_bad-requires c = (
  hops_small _ _ _ (c.hops_bad.ensures ∙ ap hops_bad c.alone-alone.ensures.record) c.if-hops_bad.false,
  orderly_more _ _ c.requires
      (sym c.owner_bad.ensures ∙ c.if-owner_bad.false)
      (sym c.rank_bad.ensures ∙ c.if-rank_bad.false),
)
