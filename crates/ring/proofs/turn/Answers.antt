-- `ring::turn` meets its contract: three reversals put the part from the lowest vertex on first.
-- Assumes nothing.
use Rattle.std.proofs.Common.{sym, ◌∙◌}
use Rattle.ring.specs.WalkLaws.{place_found, reversed_thrice, turned_at, turned_same}
use Rattle.ring.proofs.turn.Goals as goal

pub returns-in_default : goal.returns-in_default
returns-in_default c = turned_same _ (sym c.lowest_place.ensures ∙ c.in_default.is)

pub returns-in-Some : goal.returns-in-Some
returns-in-Some c =
    let place = sym c.lowest_place.ensures ∙ c.in-Some.is in
    rw (c.reverse-in-Some-2.ensures.after, c.reverse-in-Some.ensures.after, c.reverse.ensures.after)
    (reversed_thrice c.args.part.now c.in-Some.k (place_found _ _ _ place).1 ∙ turned_at _ _ place)
