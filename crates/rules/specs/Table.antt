-- The rules page, "The table".
use Rattle.std.specs.Prelude.{ℕ, suc, ◌*◌, ◌/◌, ◌%◌, Bool, true, false, ◌||◌, List, [], ◌∷◌, map, length, get_or, take, drop, eqb}
use Rattle.lists.specs.Search.{any_below, any_in, elem, max_below, those_below}
use Rattle.lists.specs.Fill.{padded, tabulate}

-- A path is its vertices, owner first, destination last; [] stands for "no path".
abbrev pub Path : Type 0
Path = List ℕ

-- "Records of 16 bytes, no header."
unfoldable pub record_at : List ℕ → ℕ → List ℕ
record_at t i = take 16 (drop (16 * i) t)

unfoldable pub records : List ℕ → ℕ
records t = length t / 16

-- "0: rank"
unfoldable pub rank_of : List ℕ → ℕ
rank_of r = get_or r 0 0

-- "1: hops h"
unfoldable pub hops_of : List ℕ → ℕ
hops_of r = get_or r 1 0

-- "2 to 2+h: h+1 vertices, owner first, destination 0 last"
unfoldable pub path_of : List ℕ → Path
path_of r = take (suc (hops_of r)) (drop 2 r)

unfoldable pub owner_of : List ℕ → ℕ
owner_of r = get_or r 2 0

abbrev pub rank_at : List ℕ → ℕ → ℕ
rank_at t i = rank_of (record_at t i)

abbrev pub hops_at : List ℕ → ℕ → ℕ
hops_at t i = hops_of (record_at t i)

abbrev pub path_at : List ℕ → ℕ → Path
path_at t i = path_of (record_at t i)

abbrev pub owner_at : List ℕ → ℕ → ℕ
owner_at t i = owner_of (record_at t i)

-- The records below n that v owns, in the table's order, which in an accepted table is best first.
unfoldable pub owned : List ℕ → ℕ → ℕ → List ℕ
owned t n v = those_below (λ i. eqb (owner_at t i) v) n

-- "One record is one permitted path": the paths of those records, and the permitted paths of v, best first.
unfoldable pub paths_below : List ℕ → ℕ → ℕ → List Path
paths_below t n v = map (path_at t) (owned t n v)

unfoldable pub paths_of : List ℕ → ℕ → List Path
paths_of t = paths_below t (records t)

-- "At most 1,008 records .. a record is found through 16 best-first slots for each of the 64 vertices"; 65,535 marks an empty slot
unfoldable pub slots_of : List ℕ → ℕ → List (List ℕ)
slots_of t n = tabulate (λ v. padded 16 65535 (owned t n v)) 64

-- "Vertex 0 is always present. Another vertex is present if any record names it, even if it owns none."
unfoldable pub present : List ℕ → ℕ → Bool
present t v = eqb v 0 || any_below (λ i. elem v (path_at t i)) (records t)

-- "L is the greatest h, 0 for the empty table."
unfoldable pub longest : List ℕ → ℕ
longest t = max_below (hops_at t) (records t)

-- The second vertex of a path, and the path from there.
unfoldable pub next_hop : Path → ℕ
next_hop p = get_or p 1 0

unfoldable pub rest : Path → Path
rest p = drop 1 p

-- The first of a list of paths that passes a test, or no path.
unfoldable pub first : (Path → Bool) → List Path → Path
first test [] = []
first test (p ∷ ps) = elim (test p) [ true ↦ p | false ↦ first test ps ]

-- whether some of these paths has u as its second vertex
abbrev pub leads_to : List Path → ℕ → Bool
leads_to own u = any_in (λ p. eqb (next_hop p) u) own

-- "Vertex v listens to u if some record of v has u as its second vertex."
unfoldable pub listens : (ℕ → List Path) → ℕ → ℕ → Bool
listens paths v u = leads_to (paths v) u

-- The same by the pair's number, 64 times v plus u.
unfoldable pub listens_at : (ℕ → List Path) → ℕ → Bool
listens_at paths k = listens paths (k / 64) (k % 64)
