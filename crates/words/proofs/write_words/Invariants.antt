use mathlib.Core.Path.{◌≡◌}
use Prim.Native.Nat.{◌*◌}
use lib.ListN.{length, take}
use Rattle.rules.specs.Entries.{word_bytes}
use Rattle.words.proofs.write_words.Given as goal

abbrev pub invariant-loop-k : goal.invariant-loop-k
invariant-loop-k l =
    record {
      long : length l.bytes ≡ 4 * length l.words;
      written : take (l.k * 4) l.bytes ≡ word_bytes l.k l.words;
    }
