-- The rules page, "What the check gives back".
use Rattle.std.specs.Prelude.{ℕ, zero, suc, pred, ◌*◌, Bool, true, false, not, ◌&&◌, List, [], ◌∷◌, length, take, drop, eqb}
use Rattle.std.proofs.Math.Option.{none, some}
use Rattle.lists.specs.Search.{count_below, same}
use Rattle.lists.specs.Fill.{blocks, padded}
use Rattle.rules.specs.Table.{Path, paths_of, present, longest}
use Rattle.rules.specs.Greedy.{Settled, is_settled, best, settled, stage_count, stage_of, stuck_in, follows, ring_from}

-- the place of a path in a list of paths, counted from 1; 0 where it is not there
unfoldable pub place_in : Path → List Path → ℕ
place_in p [] = 0
place_in p (q ∷ qs) = elim (same p q) [ true ↦ 1 | false ↦ elim (place_in p qs) [ zero ↦ 0 | suc k ↦ suc (suc k) ] ]

-- the rank of a path of v, 0 for none: v's ranks run 1, 2, 3 through its paths
unfoldable pub rank_in : (ℕ → List Path) → ℕ → Path → ℕ
rank_in paths v p = place_in p (paths v)

-- "byte 1 rank, byte 2 hops, bytes 3 to 15 the vertices, then 255"
unfoldable pub row_bytes : ℕ → ℕ → Path → List ℕ
row_bytes mark rank p = mark ∷ rank ∷ pred (length p) ∷ padded 13 255 p

module _ (paths : ℕ → List Path) (is_present : ℕ → Bool) where
  -- "byte 0: stage; 254 absent; 255 stuck", for the last settled set
  unfoldable pub row : Settled → ℕ → List ℕ
  row S v =
      elim (is_present v) [
        | false ↦ row_bytes 254 0 []
        | true ↦ elim (S v) [
          | none ↦ row_bytes 255 (rank_in paths v (best paths S v)) (best paths S v)
          | some p ↦ row_bytes (stage_of paths is_present v) (rank_in paths v p) p
        ]
      ]

-- "Each vertex writes only its own 16-byte part of the rows, starting at 16 times its number"
unfoldable pub row_at : List ℕ → ℕ → List ℕ
row_at rows v = take 16 (drop (16 * v) rows)

-- "the vertices, then 255": the numbers before the first 255
unfoldable pub vertices : List ℕ → List ℕ
vertices [] = []
vertices (v ∷ vs) = elim (eqb v 255) [ true ↦ [] | false ↦ v ∷ vertices vs ]

-- "bytes 3 to 15 the vertices, then 255": the path that a row shows, [] where it shows none
unfoldable pub path_shown : List ℕ → Path
path_shown row = vertices (drop 3 row)

-- The check's numbers and the two buffers.
pub record Report : Type 0 where
  pub ring_length : ℕ
  pub settled_count : ℕ
  pub stuck_count : ℕ
  pub stages : ℕ
  pub hops : ℕ
  pub rows : List ℕ
  pub ring : List ℕ

-- its numbers: "ring length (0 if complete), settled, stuck, s and L"
abbrev pub numbers_of : Report → List ℕ
numbers_of r = r.ring_length ∷ r.settled_count ∷ r.stuck_count ∷ r.stages ∷ r.hops ∷ []

-- The report of an accepted table. The verdict is complete where the ring's length is 0.
unfoldable pub report : List ℕ → Report
report t =
    let paths = paths_of t in
    let s = stage_count paths (present t) in
    let S = settled paths (present t) s in
    let stuck = stuck_in (present t) S in
    let ring = ring_from stuck (follows paths S) in
    record {
      ring_length = length ring;
      settled_count = count_below (λ v. not (eqb v 0) && is_settled (S v)) 64;
      stuck_count = count_below stuck 64;
      stages = s;
      hops = longest t;
      rows = blocks (row paths (present t) S) 64;
      ring = padded 64 255 ring;
    }
