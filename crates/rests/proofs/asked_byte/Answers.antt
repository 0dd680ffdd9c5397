-- `rests::asked_byte` meets its contract: the destination speaks of (0), every other vertex of its slots.
-- Assumes nothing.
use Rattle.std.proofs.Common.{◌∙◌, arith}
use mathlib.Core.List.{[]}
use Rattle.rests.specs.RestLaws.{asked_zero, asked_slots, asked_past}
use Rattle.rests.proofs.asked_byte.Goals as goal

pub returns-then-u-eq0 : goal.returns-then-u-eq0
returns-then-u-eq0 c =
    asked_zero _ _ _ _ (c.from-u.ensures ∙ c.value_or.ensures) c.rest_of-rest.ensures c.if-u-eq0.true c.same_parts.ensures c.from.ensures

pub returns : goal.returns
returns c =
    let row = c.in-Some.ensures.lookup.3 in
    asked_slots _ _ _ _ (c.from-u.ensures ∙ c.value_or.ensures) c.rest_of-rest.ensures c.if-u-eq0.false (omega (arith, row.0)) (row.1 []) c.place_of.ensures

pub returns-in_default : goal.returns-in_default
returns-in_default c =
    let row = c.in_default.ensures.lookup.3 in
    asked_past _ _ _ _ (c.from-u.ensures ∙ c.value_or.ensures) (omega (arith, row))
