-- The paths that slots hold, for any bytes.
use Rattle.std.specs.Prelude.{ℕ, ◌≤◌, min, ◌≡◌, true, false, List, [], ◌∷◌, map, length, get_or, take, eqb, ltb}
use Rattle.lists.specs.Fill.{padded}
use Rattle.rules.specs.Table.{Path, records, path_at, slots_of}

-- the records of a row of slots: those before the first empty slot
unfoldable pub filled : List ℕ → List ℕ
filled [] = []
filled (i ∷ is) = elim (eqb i 65535) [ true ↦ [] | false ↦ i ∷ filled is ]

-- the paths that a row of slots holds
unfoldable pub slot_paths : List ℕ → List ℕ → List Path
slot_paths t row = map (path_at t) (filled row)

-- the paths that each vertex's slots hold; what is no vertex has none
unfoldable pub held_in : List ℕ → List (List ℕ) → ℕ → List Path
held_in t slots v = elim (ltb v 64) [ true ↦ slot_paths t (get_or slots v []) | false ↦ [] ]

-- the paths that the slots of a table hold, of its first 1,008 records
unfoldable pub slotted : List ℕ → ℕ → List Path
slotted t = held_in t (slots_of t (min (records t) 1008))

-- a row that is filled slot by slot with a byte for each path, d behind them, and has come to slot k
pub record FilledTo (f : Path → ℕ) (d : ℕ) (t row out : List ℕ) (k : ℕ) : Type 0 where
  pub size : length row ≡ 16
  pub under : k ≤ length (slot_paths t row)
  pub bytes : out ≡ padded 16 d (map f (take k (slot_paths t row)))
