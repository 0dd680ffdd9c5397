-- What is judged before the first store, by where the slots lead.
use Rattle.std.specs.Prelude.{ℕ, ◌-◌, ◌%◌, ◌≡◌, Bool, true, false, not, ◌&&◌, ◌||◌, List, [], length, get_or, eqb, ltb}
use Rattle.std.specs.Prelude as std
use Rattle.std.specs.Prelude.{Some, None}
use Rattle.std.proofs.Math.Option.{Option, none, some}
use Rattle.lists.specs.Search.{first_in}
use Rattle.rules.specs.Refusals.{refusal}
use Rattle.pairs.specs.SlotPaths.{slotted}
use Rattle.pairs.specs.NextHops.{Rows, listens_in}

-- whether u can speak of the path with the byte b, from 1: the destination of one, every other vertex of those in its slots
unfoldable pub speaks_in : List (List ℕ) → ℕ → ℕ → Bool
speaks_in nexts u b = elim (eqb u 0) [ true ↦ eqb b 1 | false ↦ not (ltb 16 b) && not (eqb (get_or (get_or nexts u []) (b - 1) 0) 255) ]

-- a bad byte: one where nobody listens, or of a path that the speaker has not
unfoldable pub bad_heard : List (List ℕ) → ℕ → ℕ → Bool
bad_heard nexts k b = elim (eqb b 0) [ true ↦ false | false ↦ not (listens_in nexts k) || not (speaks_in nexts (k % 64) b) ]

-- the lowest bad offset, none where the state is valid
unfoldable pub bad_offset : List (List ℕ) → List ℕ → Option ℕ
bad_offset nexts heard = first_in (bad_heard nexts) 0 heard

-- an offset that the code has found, or none
abbrev pub offset_in : std.Option ℕ → Option ℕ
offset_in None = none
offset_in (Some k) = some k

-- an accepted table and a heard state of the right length, with where the slots lead and the lowest bad offset
pub record Surveyed (t heard : List ℕ) (nexts : List (List ℕ)) (at : std.Option ℕ) : Type 0 where
  pub accepted : refusal t ≡ none
  pub long : length heard ≡ 4096
  pub leads : Rows (slotted t) nexts
  pub found : offset_in at ≡ bad_offset nexts heard
