-- What a buffer holds after bytes were written to it.
use Rattle.std.specs.Prelude.{ℕ, true, false, List, length}
use Rattle.rules.specs.Answers.{other_length}

-- the new bytes in place of as many old ones; a buffer of another length stays as it was
unfoldable pub overwritten : List ℕ → List ℕ → List ℕ
overwritten new old = elim (other_length (length new) old) [ true ↦ old | false ↦ new ]
