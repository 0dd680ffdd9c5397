-- `words::write_sums` meets its contract: each word is a sum's complement.
-- Assumes nothing.
use mathlib.Core.Path.{◌∙◌}
use borrow.Author.Rules.{rules}
use lib.ListN.{get_or}
use lib.IntN.{pos}
use Rattle.rules.specs.Entries.{twos_complement}
use Rattle.slices.specs.FromFn.{tabulated}
use Rattle.words.specs.WordLaws.{over_other, over_same, sums_size, sums_words}
use Rattle.words.proofs.write_sums.Goals as goal

pub returns-else-bytes-eq-SUMS_LENGTH : goal.returns-else-bytes-eq-SUMS_LENGTH
returns-else-bytes-eq-SUMS_LENGTH c = over_other 256 _ _ (sums_size _) c.if-bytes-eq-SUMS_LENGTH.false

pub returns-then-bytes-eq-SUMS_LENGTH : goal.returns-then-bytes-eq-SUMS_LENGTH
returns-then-bytes-eq-SUMS_LENGTH c =
    let sums = c.args.sums.now in
    let told =
    tabulated _ _ (λ v. twos_complement (get_or sums v (pos 0))) (λ i y q made. search rules) 0 _ 64
    c.from_fn-words.ensures.items
    in
    c.write_words.ensures
    ∙ sums_words sums _ told
    ∙ over_same 256 _ c.args.bytes.now (sums_size sums) c.if-bytes-eq-SUMS_LENGTH.true
