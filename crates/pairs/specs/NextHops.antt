-- Where slots lead, and who listens to whom by them, for any bytes.
use Rattle.std.specs.Prelude.{ℕ, ◌+◌, ◌*◌, ◌/◌, ◌%◌, ◌≡◌, Bool, ◌&&◌, List, [], map, get_or, eqb, ltb}
use Rattle.std.proofs.Math.Option.{none, some}
use Rattle.lists.specs.Search.{first_from}
use Rattle.lists.specs.Fill.{padded, tabulate}
use Rattle.rules.specs.Table.{Path, next_hop}

-- the next hop of each path over 16 slots, 255 behind them
unfoldable pub next_row : List Path → List ℕ
next_row own = padded 16 255 (map next_hop own)

-- the rows of all vertices
abbrev pub Rows : (ℕ → List Path) → List (List ℕ) → Type 0
Rows paths nexts = nexts ≡ tabulate (λ v. next_row (paths v)) 64

-- the first slot that leads to u, 16 where none does
unfoldable pub slot_to : List ℕ → ℕ → ℕ
slot_to nexts u = elim (first_from (λ k. eqb (get_or nexts k 0) u) 0 16) [ none ↦ 16 | some k ↦ k ]

-- whether a slot leads to the vertex u
unfoldable pub leads_in : List ℕ → ℕ → Bool
leads_in nexts u = ltb u 64 && ltb (slot_to nexts u) 16

-- whether v listens to u
unfoldable pub hears_from : List (List ℕ) → ℕ → ℕ → Bool
hears_from nexts v u = ltb v 64 && leads_in (get_or nexts v []) u

-- the same by the pair's number, 64 times v plus u
unfoldable pub listens_in : List (List ℕ) → ℕ → Bool
listens_in nexts k = hears_from nexts (k / 64) (k % 64)

-- the number of a listening pair by its slot, below 1,024, from 64 times v plus u
unfoldable pub pair_number : List (List ℕ) → ℕ → ℕ
pair_number nexts k = 16 * (k / 64) + slot_to (get_or nexts (k / 64) []) (k % 64)
