-- `reader::faults::Entry::rank_bad` meets its contract: the two tests are those of the definition.
-- Assumes nothing.
use mathlib.Core.Path.{◌∙◌}
use Rattle.laws.specs.TableLaws.{rank_high, rank_other}
use Rattle.reader.proofs.faults.Entry.rank_bad.Goals as goal

pub returns-then-rank-gt-MOST_RANK : goal.returns-then-rank-gt-MOST_RANK
returns-then-rank-gt-MOST_RANK c = rank_high _ _ _ c.rank_at-rank.ensures c.if-rank-gt-MOST_RANK.true

pub returns : goal.returns
returns c =
    let rank = c.from.ensures ∙ c.rank_at-rank.ensures in
    rank_other _ _ _ rank _ (rw c.from.ensures c.if-rank-gt-MOST_RANK.false) c.rank_due.ensures
