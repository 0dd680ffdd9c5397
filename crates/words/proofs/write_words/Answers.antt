-- `words::write_words` meets its contract: the numbers below k stand.
-- Assumes nothing.
use mathlib.Core.Path.{◌∙◌}
use native.Mathlib.Omega.{arith}
use Rattle.words.specs.WordLaws.{four_bytes_are, words_none, words_more, words_all}
use Rattle.words.proofs.write_words.Goals as goal

pub loop-k-init : goal.loop-k-init
loop-k-init c = record { long = c.requires; written = words_none _ c.args.bytes.now }

pub loop-k-preserved : goal.loop-k-preserved
loop-k-preserved c =
    let l = c.loop-k in
    let word = c.copy_from_slice.ensures.after ∙ c.to_le_bytes.ensures ∙ four_bytes_are _ in
    let more = words_more _ l.bytes _ l.k l.invariant.long c.loop-k-test.true word l.invariant.written in
    record { long = more.0; written = more.1 }

pub returns : goal.returns
returns c = let l = c.loop-k in words_all _ _ _ l.invariant.long (omega arith) l.invariant.written
