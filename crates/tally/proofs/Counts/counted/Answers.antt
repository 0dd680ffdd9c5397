-- `tally::Counts::counted` meets its contract: the rank stays, rises, falls, or changes with the standing kept.
-- Assumes nothing.
use Rattle.std.proofs.Common.{sym, ◌∙◌, Less, Equal, Greater}
use Rattle.std.proofs.lemmas.Cmp.{ranked}
use Rattle.tally.specs.CountingLaws.{counted_same, counted_up, counted_down, counted_level}
use Rattle.tally.proofs.Counts.counted.Goals as goal

pub returns-then-old-new : goal.returns-then-old-new
returns-then-old-new c = counted_same _ _ _ _ _ _ c.if-old-new.true

pub returns-in-Less : goal.returns-in-Less
returns-in-Less c =
    counted_up _ _ _ _ _ _ c.if-old-new.false _ _ c.standing_of.ensures c.standing_of-2.ensures
    (ranked _ _ Less (sym c.in-Less.is ∙ c.cmp.ensures)) _ c.saturating_add.ensures

pub returns-in-Equal : goal.returns-in-Equal
returns-in-Equal c =
    counted_level _ _ _ _ _ _ c.if-old-new.false _ _ c.standing_of.ensures c.standing_of-2.ensures
    (ranked _ _ Equal (sym c.in-Equal.is ∙ c.cmp.ensures))

pub returns-in-Greater : goal.returns-in-Greater
returns-in-Greater c =
    counted_down _ _ _ _ _ _ c.if-old-new.false _ _ c.standing_of.ensures c.standing_of-2.ensures
    (ranked _ _ Greater (sym c.in-Greater.is ∙ c.cmp.ensures)) _ c.saturating_add-in-Greater.ensures
