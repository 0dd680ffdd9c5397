-- `runner::pair::hear_pair` meets its contract: the byte is there already, or the movement's sum fits.
-- Assumes nothing.
use Rattle.std.proofs.Common.{sym, ap, ◌∙◌, arith, get_or}
use Rattle.tally.specs.CountingLaws.{small_told, moved_small}
use Rattle.runner.specs.TakingLaws.{taken_same, taken_new}
use Rattle.runner.proofs.pair.hear_pair.Goals as goal

pub returns-then-heard-offset : goal.returns-then-heard-offset
returns-then-heard-offset c = taken_same (ap (λ k. get_or c.args.heard.now k 0) (sym c.offset.ensures) ∙ c.if-heard-offset.true)

pub add-requires : goal.add-requires
add-requires c =
    let p = c.requires in
    let m = small_told _ _ (moved_small _ _) c.movement.ensures in
    (omega (arith, p.listener, p.long_sums), p.small, rw m (moved_small _ _))

pub returns : goal.returns
returns c =
    let e = c.hear-new.ensures in
    let m = small_told _ _ (moved_small _ _) c.movement.ensures in
    taken_new (λ z. c.if-heard-offset.false (ap (λ k. get_or c.args.heard.now k 0) c.offset.ensures ∙ z)) e.stored e.chosen c.add.ensures m c.counted.ensures
