-- The ring, told by marks for the stuck vertices and by the number that follows each vertex.
use Rattle.std.specs.Prelude.{◌≡◌, ℕ, ◌<◌, ◌≤◌, Bool, true, false, List, EachIndex, filter, get_or, length, ltb, slice_index}
use Rattle.std.proofs.Common.{sym, ◌∙◌}
use Rattle.lists.specs.Fill.{padded}
use Rattle.rules.specs.Greedy.{ring_from}

-- "go to the next hop of its best compatible path": the number that follows v, 0 past the end
abbrev pub next_in : List ℕ → ℕ → ℕ
next_in next v = get_or next v 0

-- "Start at the lowest stuck vertex .. The closed part, beginning at its lowest vertex and in following order, is the ring"
unfoldable pub ring_in : List Bool → List ℕ → List ℕ
ring_in stuck next = ring_from (λ v. get_or stuck v false) (next_in next)

-- the contract of `find_ring`: the ring's length, and the ring in a buffer of `size` bytes
pub record Ringed (stuck : List Bool) (next : List ℕ) (size told : ℕ) (ring_now : List ℕ) : Type 0 where
  pub count : told ≡ length (ring_in stuck next)
  pub ring : ring_now ≡ padded size 255 (ring_in stuck next)

-- any two results and buffers that it allows are equal
pub one_ring : {stuck : List Bool} {next : List ℕ} {size a b : ℕ} {x y : List ℕ}
    → Ringed stuck next size a x
    → Ringed stuck next size b y
    → (a ≡ b) × (x ≡ y)
one_ring p q = (p.count ∙ sym q.count, p.ring ∙ sym q.ring)

-- no vertex below n is marked
abbrev pub NoneMarked : List Bool → ℕ → Type 0
NoneMarked marks n = (v : ℕ) → v < n → get_or marks v false ≡ false

-- v is the lowest marked vertex
abbrev pub LowestMarked : List Bool → ℕ → Type 0
LowestMarked marks v = (v < 64) × (get_or marks v false ≡ true) × NoneMarked marks v

-- the numbers of a list that are vertices
abbrev pub vertices_in : List ℕ → List ℕ
vertices_in l = filter (λ v. ltb v 64) l

-- m is the least number of a list
abbrev pub IsLeast : List ℕ → ℕ → Type 0
IsLeast l m = ((k : ℕ) × (k < length l) × (slice_index l k ≡ m)) × EachIndex l (λ k. m ≤ slice_index l k)
