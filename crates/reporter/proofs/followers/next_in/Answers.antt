-- `reporter::followers::next_in` meets its contract: the numbers that follow, each made alone.
-- Assumes nothing.
use Rattle.std.proofs.Common.{rules}
use Rattle.slices.specs.FromFn.{tabulated}
use Rattle.reporter.specs.Showing.{shown_next}
use Rattle.reporter.proofs.followers.next_in.Goals as goal

pub returns : goal.returns
returns c =
    tabulated _ _ (shown_next c.args.table.now c.args.stuck.now c.args.shown.now) (λ i y q k. search rules) 0 _ 64 c.from_fn.ensures.items
