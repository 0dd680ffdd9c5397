-- `text_writing::Writer::place` meets its contract: each name by the number.
-- Assumes nothing.
use native.Mathlib.Omega.{arith}
use Rattle.lists.specs.Tests.{is_inside, below_out, above_out}
use Rattle.rules.specs.Text.{codes, labelled}
use Rattle.laws.specs.TextLaws.{place_record, place_offset, place_pair, place_none}
use Rattle.text_writing.specs.WritesLaws.{writes_nothing, writes_as}
use Rattle.text_writing.proofs.Writer.place.Goals.{in-12, in-14, in-4-to-11}
use Rattle.text_writing.proofs.Writer.place.Goals as goal

pub returns-in_default : goal.returns-in_default
returns-in_default c =
    writes_as (writes_nothing _) (place_none _ _ (below_out 4 11 _ (omega arith)) (λ e. omega arith) (λ e. omega arith))

pub returns-in_default-2 : goal.returns-in_default-2
returns-in_default-2 c =
    writes_as (writes_nothing _) (place_none _ _ (above_out 4 11 _ (omega arith)) (λ e. omega arith) (λ e. omega arith))

pub returns : goal.returns
unfolding codes labelled
returns c =
    elim c.match-number.branch [
      | in-12 w ↦ writes_as (rw w.word-is at c.labelled.ensures) (place_offset _ _ w.in-12.is)
      | in-14 w ↦ writes_as (rw w.word-is at c.labelled.ensures) (place_pair _ _ w.in-14.is)
      | in-4-to-11 w ↦
          writes_as (rw w.word-is at c.labelled.ensures) (place_record _ _ (is_inside 4 11 _ (omega arith) (omega arith)))
    ]
