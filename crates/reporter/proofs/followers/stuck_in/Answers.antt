-- `reporter::followers::stuck_in` meets its contract: the marks of the stuck, each made alone.
-- Assumes nothing.
use Rattle.std.specs.Prelude.{false}
use Rattle.std.proofs.Common.{rules}
use Rattle.slices.specs.FromFn.{tabulated}
use Rattle.reporter.specs.Showing.{is_between, stuck_marks}
use Rattle.reporter.proofs.followers.stuck_in.Goals as goal

pub returns : goal.returns
unfolding stuck_marks
returns c =
    tabulated _ _ (is_between 255 255 c.args.marks.now) (λ i y q k. search rules) false _ 64 c.from_fn.ensures.items
