-- What the search through a vertex's slots found, as the byte that is stored for it.
use Rattle.std.specs.Prelude.{ℕ, suc, Option, Some, None}

-- the rank of the slot, which is its number from 1, or 0 for none
abbrev pub found_byte : Option ℕ → ℕ
found_byte (Some k) = suc k
found_byte None = 0
