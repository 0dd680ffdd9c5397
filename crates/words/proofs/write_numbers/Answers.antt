-- `words::write_numbers` meets its contract: eight numbers, where the buffer has room for just these.
-- Assumes nothing.
use native.Mathlib.Omega.{arith}
use mathlib.Core.Path.{◌∙◌}
use Rattle.words.specs.WordLaws.{over_other, over_same, numbers_size, numbers_eight}
use Rattle.words.proofs.write_numbers.Goals as goal

pub returns-else-numbers-eq-NUMBERS_LENGTH : goal.returns-else-numbers-eq-NUMBERS_LENGTH
returns-else-numbers-eq-NUMBERS_LENGTH c = over_other 32 _ _ (numbers_size c.args.told) c.if-numbers-eq-NUMBERS_LENGTH.false

pub returns-then-numbers-eq-NUMBERS_LENGTH : goal.returns-then-numbers-eq-NUMBERS_LENGTH
returns-then-numbers-eq-NUMBERS_LENGTH c =
    let told = c.args.told in
    c.write_words.ensures
    ∙ numbers_eight told (omega arith)
    ∙ over_same 32 _ c.args.numbers.now (numbers_size told) c.if-numbers-eq-NUMBERS_LENGTH.true
