use Rattle.text_writing.specs.DigitLaws.{Writing}
use Rattle.text_writing.proofs.write_digits.Given as goal

abbrev pub invariant-loop-at : goal.invariant-loop-at
invariant-loop-at l = Writing l.n l.digits l.rest l.at
