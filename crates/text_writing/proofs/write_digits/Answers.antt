-- `text_writing::write_digits` meets its contract: what is left to write before the place at, and what stands from
-- there on, are the digits. Assumes nothing.
use Rattle.std.proofs.Common.{arith}
use Rattle.text_writing.specs.DigitLaws.{writing_start, writing_more, writing_last, writing_full}
use Rattle.text_writing.proofs.write_digits.Goals as goal

pub loop-at-init : goal.loop-at-init
loop-at-init c = writing_start _ _ c.told-digits

pub returns-then-rest-eq0 : goal.returns-then-rest-eq0
returns-then-rest-eq0 c =
    writing_last _ _ _ _ c.loop-at-test.true (omega arith) (omega arith) c.if-rest-eq0.true c.loop-at.invariant

pub loop-at-preserved : goal.loop-at-preserved
loop-at-preserved c =
    writing_more _ _ _ _ c.loop-at-test.true (omega arith) c.if-rest-eq0.false c.loop-at.invariant

pub returns : goal.returns
returns c = writing_full _ _ _ _ c.loop-at-test.false c.loop-at.invariant
