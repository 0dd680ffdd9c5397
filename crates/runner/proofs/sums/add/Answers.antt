-- `runner::sums::add` meets its contract: the sum of two small numbers fits.
-- Assumes nothing.
use borrow.Author.Rules.{rules}
use Rattle.tally.specs.CountingLaws.{sum_fits}
use Rattle.runner.proofs.sums.add.Goals as goal

pub overflow_add-sums : goal.overflow_add-sums
overflow_add-sums c = search (rules, sum_fits)

pub returns : goal.returns
returns c = search (rules, sum_fits)
