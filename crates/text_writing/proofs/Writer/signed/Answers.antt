-- `text_writing::Writer::signed` meets its contract: a sign below 0, then the size.
-- Assumes nothing.
use Rattle.rules.specs.Text.{codes}
use Rattle.text_writing.specs.SignedLetterLaws.{signed_plain, signed_below}
use Rattle.text_writing.specs.WritesLaws.{writes_then, writes_as}
use Rattle.text_writing.proofs.Writer.signed.Goals.{then-n-lt0, else-n-lt0}
use Rattle.text_writing.proofs.Writer.signed.Goals as goal

pub returns : goal.returns
unfolding codes
returns c =
    let size = c.unsigned_abs.ensures.value in
    elim c.if-n-lt0.branch [
      | then-n-lt0 w ↦
          writes_as (writes_then w.put.ensures (rw w.self-is at c.number.ensures))
          (signed_below _ _ c.ranges.n size w.if-n-lt0.true)
      | else-n-lt0 w ↦
          writes_as (rw w.self-is at c.number.ensures) (signed_plain _ _ c.ranges.n size w.if-n-lt0.false)
    ]
