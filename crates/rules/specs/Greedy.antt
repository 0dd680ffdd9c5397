-- The rules page, "Greedy stages", over the permitted paths of each vertex and the vertices that are present.
use Rattle.std.specs.Prelude.{ℕ, zero, suc, Bool, true, false, not, ◌&&◌, List, [], ◌∷◌, ◌++◌, get_or, eqb}
use Rattle.std.proofs.Math.Option.{Option, none, some}
use Rattle.lists.specs.Search.{any_below, elem, first_from, same}
use Rattle.lists.specs.Fill.{tabulate}
use Rattle.rules.specs.Table.{Path, first, next_hop}

-- What is settled: none for "not yet", a path, or [] for "settled without a path".
abbrev pub Settled : Type 0
Settled = ℕ → Option Path

unfoldable pub is_settled : Option Path → Bool
is_settled none = false
is_settled (some p) = true

-- "compatible if, at its first settled vertex, the rest of the path from there equals that vertex's settled path"; no such rest
-- equals [], so "A vertex settled without a path makes every path through it incompatible."
unfoldable pub compatible : Settled → Path → Bool
compatible S [] = false
compatible S (v ∷ p) = elim (S v) [ none ↦ compatible S p | some q ↦ same (v ∷ p) q ]

-- "The destination is settled at stage 0 with path (0)."
unfoldable pub at_start : Settled
at_start v = elim (eqb v 0) [ true ↦ some (0 ∷ []) | false ↦ none ]

-- How a vertex with that best compatible path is judged: "no compatible path: settles without a path; best compatible path has a
-- settled next hop: settles with that path; otherwise it waits."
unfoldable pub judged : Settled → Path → Option Path
judged S [] = some []
judged S (v ∷ p) = elim (is_settled (S (next_hop (v ∷ p)))) [ true ↦ some (v ∷ p) | false ↦ none ]

-- "those left are stuck", for the last settled set
unfoldable pub stuck_in : (ℕ → Bool) → Settled → ℕ → Bool
stuck_in present S v = present v && not (is_settled (S v))

module _ (paths : ℕ → List Path) where
  -- the best compatible path
  unfoldable pub best : Settled → ℕ → Path
  best S v = first (compatible S) (paths v)

  module _ (present : ℕ → Bool) where
    -- "In a stage all present unsettled vertices are judged against the same settled set."
    unfoldable pub stage : Settled → Settled
    stage S v = elim (S v) [ some p ↦ some p | none ↦ elim (present v) [ true ↦ judged S (best S v) | false ↦ none ] ]

    -- what is settled after k stages, as a list over the 64 vertices and as a function
    unfoldable pub settled_list : ℕ → List (Option Path)
    settled_list zero = tabulate at_start 64
    settled_list (suc k) = let before = settled_list k in tabulate (stage (λ v. get_or before v none)) 64

    unfoldable pub settled : ℕ → Settled
    settled k = let after = settled_list k in λ v. get_or after v none

    -- whether v enters in the next stage, and whether nobody does
    unfoldable pub enters : Settled → ℕ → Bool
    enters S v = not (is_settled (S v)) && is_settled (stage S v)

    unfoldable pub is_quiet : Settled → Bool
    is_quiet S = not (any_below (enters S) 64)

    -- how many stages pass until a test holds of what is settled, from such a list on and from the start; 64 are more than it takes
    unfoldable pub stages_from : (Settled → Bool) → ℕ → List (Option Path) → ℕ
    stages_from test zero list = 0
    stages_from test (suc n) list =
        let S : Settled = λ v. get_or list v none in
        elim (test S) [ true ↦ 0 | false ↦ suc (stages_from test n (tabulate (stage S) 64)) ]

    unfoldable pub stages_until : (Settled → Bool) → ℕ
    stages_until test = stages_from test 64 (tabulate at_start 64)

    -- "The first stage in which none enters isn't counted": the stage count s
    unfoldable pub stage_count : ℕ
    stage_count = stages_until is_quiet

    -- the stage at which v settled
    unfoldable pub stage_of : ℕ → ℕ
    stage_of v = stages_until (λ S. is_settled (S v))

-- "go to the next hop of its best compatible path"
unfoldable pub follows : (ℕ → List Path) → Settled → ℕ → ℕ
follows paths S v = next_hop (best paths S v)

-- the part of a list from v on, and the part before v
unfoldable pub from_vertex : ℕ → List ℕ → List ℕ
from_vertex v [] = []
from_vertex v (x ∷ xs) = elim (eqb v x) [ true ↦ x ∷ xs | false ↦ from_vertex v xs ]

unfoldable pub before_vertex : ℕ → List ℕ → List ℕ
before_vertex v [] = []
before_vertex v (x ∷ xs) = elim (eqb v x) [ true ↦ [] | false ↦ x ∷ before_vertex v xs ]

-- "follow until a vertex repeats. The closed part": of the vertices seen so far, those from the repeated one on
unfoldable pub closed_part : (ℕ → ℕ) → ℕ → List ℕ → ℕ → List ℕ
closed_part next zero seen v = []
closed_part next (suc n) seen v = elim (elem v seen) [ true ↦ from_vertex v seen | false ↦ closed_part next n (seen ++ v ∷ []) (next v) ]

-- "beginning at its lowest vertex and in following order"
unfoldable pub lowest_of : List ℕ → ℕ
lowest_of r = elim (first_from (λ v. elem v r) 0 64) [ none ↦ 0 | some v ↦ v ]

unfoldable pub turned : List ℕ → List ℕ
turned r = let low = lowest_of r in from_vertex low r ++ before_vertex low r

-- "Start at the lowest stuck vertex": the ring, [] where none is stuck
unfoldable pub ring_from : (ℕ → Bool) → (ℕ → ℕ) → List ℕ
ring_from stuck next = elim (first_from stuck 0 64) [ none ↦ [] | some v ↦ turned (closed_part next 65 [] v) ]
