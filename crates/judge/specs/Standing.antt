-- How the check keeps what is settled: a mark and a record number for each vertex, and one stage over them, for any bytes.
-- The mark is the row's byte 0: the stage, 254 for absent, 255 for a vertex that waits. The record is that of the path with which the
-- vertex settled or, where it waits, of its best compatible path as it was judged last; 65,535 for none.
use Rattle.std.specs.Prelude.{ℕ, Bool, true, false, ◌||◌, ◌&&◌, List, [], ◌∷◌, Option, Some, None, find, take_while, not, get_or, eqb, ltb}
use Rattle.std.proofs.Math.Option.{none, some}
use Rattle.rules.specs.Table.{Path, path_at, next_hop}
use Rattle.rules.specs.Greedy.{Settled, compatible}

-- whether a vertex is settled: its mark is a stage
unfoldable pub is_in : List ℕ → ℕ → Bool
is_in marks v = ltb (get_or marks v 255) 254

-- the path that a settled vertex holds; vertex 0 has (0), which no record is
unfoldable pub held_path : List ℕ → List ℕ → ℕ → Path
held_path t shown v = elim (eqb v 0) [ true ↦ 0 ∷ [] | false ↦ path_at t (get_or shown v 65535) ]

-- what is settled, as the rules have it
unfoldable pub settled_by : List ℕ → List ℕ → List ℕ → Settled
settled_by t marks shown v = elim (is_in marks v) [ true ↦ some (held_path t shown v) | false ↦ none ]

-- the first record of a vertex's slots that passes a test, 65,535 where none does; the first empty slot ends the search
unfoldable pub first_record : (ℕ → Bool) → List ℕ → ℕ
first_record test [] = 65535
first_record test (i ∷ is) =
    elim (eqb i 65535) [ true ↦ 65535 | false ↦ elim (test i) [ true ↦ i | false ↦ first_record test is ] ]

-- the record of the best compatible path
unfoldable pub best_record : List ℕ → List ℕ → List ℕ → List ℕ → ℕ
best_record t marks shown slots = first_record (λ i. compatible (settled_by t marks shown) (path_at t i)) slots

-- whether a vertex with that best compatible path enters: it has none, or its next hop is settled
unfoldable pub enters_with : List ℕ → List ℕ → ℕ → Bool
enters_with t marks b = eqb b 65535 || is_in marks (next_hop (path_at t b))

-- who is judged in a stage: the present unsettled vertices
unfoldable pub is_judged : List ℕ → ℕ → Bool
is_judged marks v = eqb (get_or marks v 254) 255

-- the record and the mark of a vertex after a stage, all judged against the same marks and records
unfoldable pub shown_after : List ℕ → List (List ℕ) → List ℕ → List ℕ → ℕ → ℕ
shown_after t slots marks shown v =
    elim (is_judged marks v) [ true ↦ best_record t marks shown (get_or slots v []) | false ↦ get_or shown v 65535 ]

unfoldable pub mark_after : List ℕ → List (List ℕ) → List ℕ → List ℕ → ℕ → ℕ → ℕ
mark_after t slots marks shown number v =
    elim (is_judged marks v && enters_with t marks (shown_after t slots marks shown v)) [ true ↦ number | false ↦ get_or marks v 254 ]

-- the record that a number shows, none at 65,535
unfoldable pub record_shown : ℕ → Option ℕ
record_shown i = elim (eqb i 65535) [ true ↦ None | false ↦ Some i ]

-- the first record in front of the first empty slot whose path is compatible: what `best_record` shows
abbrev pub first_compatible : List ℕ → List ℕ → List ℕ → List ℕ → Option ℕ
first_compatible t marks shown slots =
    find (λ i. compatible (settled_by t marks shown) (path_at t i)) (take_while (λ i. not (eqb i 65535)) slots)

-- `enters_with` of a record or none
unfoldable pub enters_by : List ℕ → List ℕ → Option ℕ → Bool
enters_by t marks None = true
enters_by t marks (Some i) = is_in marks (next_hop (path_at t i))
